use Rattle.std.proofs.Common.{◌≡◌, ◌≤◌, ◌++◌, List, ℕ, drop, length, map}
use Rattle.csv.specs.Records.{fields_of}
use Rattle.csv_instance.specs.Changed.{AreFrom, changed_rows, changed_text}
use Rattle.csv_instance.specs.Layout.{text_of}
use Rattle.csv_instance.specs.Places.{column_places}
use Rattle.csv_instance.specs.Records.{Record}
use Rattle.csv_instance.specs.Wrote.{Wrote}
use Rattle.csv_instance.proofs.changed.write_changed.Given as goal

-- the text so far, and that of the rows that are left, whose changes are those that are left
abbrev pub invariant-loop-place : goal.invariant-loop-place
invariant-loop-place l = (header : Record) × (text : List ℕ) × Wrote l.writer text
    × (l.places ≡ column_places header)
    × (changed_text l.fn.rows l.fn.changes ≡ text
    ++ text_of (changed_rows header (drop l.next l.changes) l.place (drop l.place (map fields_of l.records))))
    × AreFrom l.place (drop l.next l.changes)
    × (l.next ≤ length l.changes)
