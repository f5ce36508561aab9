use Rattle.std.proofs.Common.{ap}
use Rattle.csv.specs.Records.{fields_of}
use Rattle.csv_instance.specs.Offsets.{parsed_offsets}
use Rattle.csv_instance.proofs.FoundLemmas.{offsets-header}
use Rattle.csv_instance.proofs.offsets.read_columns.Goals as goal

pub returns-in-Ok : goal.returns-in-Ok
returns-in-Ok c = λ ids left g.
    let (more, first, on) = rw c.in-Ok-Some.field-0-is at (c.in-Ok-Some.ensures left g) in
    (fields_of c.in-Ok-Some.header, more, first, on, c.in-Ok.ensures.0, c.in-Ok.ensures.1)

pub returns-in-Ok-Some : goal.returns-in-Ok-Some
returns-in-Ok-Some c = λ ids left g.
    let (more, first, on) = rw c.in-Ok-Some.field-0-is at (c.in-Ok-Some.ensures left g) in
    let bad = c.in-Err-find_offset_columns in
    rw first (offsets-header ids (fields_of c.in-Ok-Some.header) more bad.fault bad.ensures)

pub returns-in-Ok-None : goal.returns-in-Ok-None
returns-in-Ok-None c = λ ids left g.
    ap (parsed_offsets ids) (rw c.in-Ok-None.field-0-is at (c.in-Ok-None.ensures left g))
