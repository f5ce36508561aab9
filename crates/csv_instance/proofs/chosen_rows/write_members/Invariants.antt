use Rattle.std.proofs.Common.{◌≡◌, ◌++◌, List, ℕ, map, drop}
use Rattle.csv.specs.Records.{fields_of}
use Rattle.csv_instance.specs.Chosen.{rows_at}
use Rattle.csv_instance.specs.Layout.{text_of}
use Rattle.csv_instance.specs.Wrote.{Wrote}
use Rattle.csv_instance.proofs.chosen_rows.write_members.Given as goal

abbrev pub invariant-loop-member : goal.invariant-loop-member
invariant-loop-member l = (before : List ℕ) → Wrote l.fn.writer before → (text : List ℕ) × Wrote l.writer text
    × (before ++ text_of (rows_at (map fields_of l.rows) l.members)
    ≡ text ++ text_of (rows_at (map fields_of l.rows) (drop l.member-index l.members)))
