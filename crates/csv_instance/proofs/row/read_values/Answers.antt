use Rattle.std.proofs.Common.{◌≤◌, ◌+◌, arith, length}
use Rattle.dsa_model.specs.Limits.{file_limit}
use Rattle.csv.specs.Records.{fields_of}
use Rattle.csv_instance.proofs.FieldLemmas.{short-at}
use Rattle.csv_instance.proofs.row.read_values.Goals as goal

pub returns-in-Ok-Some-clause-limits : goal.returns-in-Ok-Some-clause-limits
returns-in-Ok-Some-clause-limits c =
    let short : length c.field_under.result.now ≤ file_limit =
    rw c.field_under.ensures (short-at (fields_of c.args.row.now) c.args.places.now.gaps c.requires) in
    let count : length c.in-Ok-Some.gaps.items ≤ length c.field_under.result.now + 1 =
    rw c.in-Ok-Some.field-0-is at c.in-Ok-Some.ensures.count in
    record { lower = c.in-Ok.ensures.limits.0; upper = c.in-Ok.ensures.limits.1; few_gaps = omega arith }
