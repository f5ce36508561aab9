use Rattle.std.proofs.Common.{◌≡◌, ◌++◌, drop, List, map, ℕ}
use Rattle.csv_instance.specs.Layout.{text_of}
use Rattle.csv_instance.specs.Wrote.{Wrote}
use Rattle.trace_import.specs.ImportText.{import_rows, import_text}
use Rattle.trace_import.specs.Kept.{line_value}
use Rattle.trace_import.proofs.importing.import.Given as goal

-- the text so far, and the rows that are left
abbrev pub invariant-loop-place : goal.invariant-loop-place
invariant-loop-place l = (text : List ℕ) × Wrote l.writer text
    × (import_text l.fn.trace ≡ text ++ text_of (import_rows l.place (drop l.place (map line_value l.lines))))
