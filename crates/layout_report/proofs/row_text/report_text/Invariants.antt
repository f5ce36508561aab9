use Rattle.std.proofs.Common.{◌≡◌, ◌++◌, List, ℕ, drop, map, string_bytes}
use Rattle.csv_instance.specs.Layout.{text_of}
use Rattle.csv_instance.specs.Offsets.{ids_of}
use Rattle.csv_instance.specs.Wrote.{Wrote}
use Rattle.layout_report.specs.Report.{row_fields, rows_text}
use Rattle.layout_report.proofs.row_text.report_text.Given as goal

abbrev pub invariant-loop-row : goal.invariant-loop-row
invariant-loop-row l = (text : List ℕ) × Wrote l.writer text
    × (string_bytes l.fn.line ++ rows_text (ids_of l.table) l.rows
    ≡ text ++ text_of (map (row_fields (ids_of l.table)) (drop l.row-index l.rows)))
