use Rattle.std.proofs.Common.{◌≡◌, ◌++◌, List, ℕ, map, drop}
use Rattle.csv.specs.Records.{fields_of}
use Rattle.csv_instance.specs.Layout.{rows_with, text_of}
use Rattle.csv_instance.specs.Wrote.{Wrote}
use Rattle.csv_instance.proofs.layout.write_offsets.Given as goal

abbrev pub invariant-loop-place : goal.invariant-loop-place
invariant-loop-place l = (before : List ℕ) → Wrote l.fn.writer before → (text : List ℕ) × Wrote l.writer text
    × (before ++ text_of (rows_with (map fields_of l.rows) l.offsets)
    ≡ text ++ text_of (rows_with (drop l.place (map fields_of l.rows)) (drop l.place l.offsets)))
