use Rattle.std.proofs.Common.{◌≡◌, ◌++◌, List, ℕ, drop, map}
use Rattle.csv_instance.specs.Layout.{text_of}
use Rattle.csv_instance.specs.Records.{header_of}
use Rattle.csv_instance.specs.Wrote.{Wrote}
use Rattle.column_report.specs.Columns.{column_row, columns_text}
use Rattle.column_report.proofs.columns.columns_text.Given as goal

abbrev pub invariant-loop-place : goal.invariant-loop-place
invariant-loop-place l = (text : List ℕ) × Wrote l.writer text
    × (columns_text (header_of l.table)
    ≡ text ++ text_of (map column_row (drop l.place (header_of l.table))))
