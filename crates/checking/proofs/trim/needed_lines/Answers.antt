use Rattle.checking.specs.Checking.{Trims}
use Rattle.checking.proofs.LogOutcomes.{prepared_as}
use Rattle.checking.proofs.TrimmedLogs.{its_outcome, trimmed_file}
use Rattle.checking.proofs.trim.needed_lines.Goals as goal

pub returns : goal.returns
returns c =
    prepared_as (Trims c.args.output.now c.args.instance.now c.args.original.now)
    (trimmed_file c.args.output.now c.len.result c.len-2.result c.in_ok-write_log.field-0.items) c.one_write.result
    c.one_write.ensures
    (its_outcome c.args.output.now c.args.instance.now c.args.original.now c.in_ok-trimmed.trimmed c.len.result
    c.len-2.result c.in_ok-write_log.field-0.items c.in_ok-trimmed.ensures.value c.in_ok-trimmed.ensures.accepted
    c.len.ensures.value c.len-2.ensures.value c.in_ok-write_log.ensures.value c.in_ok-write_log.ensures.read_back)
