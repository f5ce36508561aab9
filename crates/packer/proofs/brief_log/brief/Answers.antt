use Rattle.std.proofs.Common.{arith}
use Rattle.std.proofs.lemmas.Result.{IfOk-weaker}
use Rattle.packer.proofs.Brief.{bound_line, trim_fewer}
use Rattle.packer.proofs.brief_log.brief.Goals as goal

pub returns-clause-fewer : goal.returns-clause-fewer
returns-clause-fewer c = IfOk-weaker c.trim.result _ _ (trim_fewer c.args.log) c.trim.ensures.value

pub returns-clause-bound : goal.returns-clause-bound
returns-clause-bound c C b =
    let one = bound_line c.args.instance.now C c.args.log b in absurd (omega arith)
