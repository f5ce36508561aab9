use Rattle.std.proofs.Common.{◌∙◌, ◌++◌, List, ap, sym}
use Rattle.csv.specs.Records.{fields_of}
use Rattle.csv_instance.specs.Parse.{parse}
use Rattle.csv_instance.specs.Rows.{parse_rows}
use Rattle.csv_instance.specs.Records.{Record}
use Rattle.csv_instance.proofs.FailLemmas.{UnlessNoMemory-map}
use Rattle.csv_instance.proofs.RowLemmas.{bad_header, no_rows}
use Rattle.csv_instance.proofs.read.start_rows.Goals as goal

pub returns-in-Ok-Some : goal.returns-in-Ok-Some
returns-in-Ok-Some c = λ left g.
    let (more, first, on) = rw c.in-Ok-Some.field-0-is at (c.in-Ok-Some.ensures left g) in
    UnlessNoMemory-map c.start.result
    (λ t s. (
      ap parse s.0 ∙ no_rows (fields_of c.in-Ok-Some.header) s.1,
      more,
      first ∙ ap (λ (r : List Record). r ++ more) (sym s.0),
      on,
    ))
    (λ f e. let bad = bad_header (fields_of c.in-Ok-Some.header) more f e in
    (ap parse first ∙ bad.0, ap parse_rows first ∙ bad.1)) c.start.ensures

pub returns-in-Ok-None : goal.returns-in-Ok-None
returns-in-Ok-None c = λ left g.
    let none = rw c.in-Ok-None.field-0-is at (c.in-Ok-None.ensures left g) in
    (ap parse none, ap parse_rows none)
