-- The report of what is read of an instance file.
use Rattle.std.specs.Prelude.{ℕ, List, ◌++◌}
use Rattle.dsa_terms.specs.Buffers.{Instance}
use Rattle.csv_instance.specs.Records.{Record, header_of}
use Rattle.column_report.specs.Columns.{columns_text}
use Rattle.column_report.specs.Counts.{counts_line, counts_of}

-- the counts of the instance, and below them what each column of the table's header means
abbrev pub inspect_text : List Record → Instance → List ℕ
inspect_text table I = counts_line (counts_of I) ++ columns_text (header_of table)
