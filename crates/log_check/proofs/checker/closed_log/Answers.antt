use Rattle.std.proofs.Common.{◌∙◌}
use Rattle.log_check.proofs.AcceptedLogs.{illegal_lines}
use Rattle.log_check.proofs.checker.closed_log.Goals as goal

pub returns-in-Err-clause-same : goal.returns-in-Err-clause-same
returns-in-Err-clause-same c =
    illegal_lines c.args.instance.now c.args.raw c.into_vec.result.items c.in-Err.fail
    (c.if-raw-actual.false ∙ c.len-actual.ensures.value) c.into_vec.ensures.value c.in-Err.ensures.fault
