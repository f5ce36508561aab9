use Rattle.std.proofs.Common.{◌≡◌, ◌∷◌, List, None, map}
use Rattle.csv_instance.specs.Found.{AreColumns}
use Rattle.csv_instance.specs.Gives.{Gives}
use Rattle.csv_instance.specs.Offsets.{layout_header_fault}
use Rattle.csv_instance.specs.Records.{Record}
use Rattle.csv_instance.proofs.FoundLemmas.{IsReading}
use Rattle.csv_instance.proofs.offsets.note_rows.Given as goal

abbrev pub invariant-loop-row : goal.invariant-loop-row
invariant-loop-row l = (left : List Record) × Gives l.row-iterator left
    × ((header : Record) (rows : List Record) → Gives l.fn.records rows → layout_header_fault header ≡ None
    → AreColumns header l.columns
    → IsReading (map (λ k. k.items) l.ids.keys) (header ∷ rows) l.columns l.found.entries left)
