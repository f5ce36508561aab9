use Rattle.std.proofs.Common.{Some}
use Rattle.deciding.proofs.Decided.{found_exactly, left_open}
use Rattle.fact_reports.proofs.trial.verdict.Goals as goal

pub returns-in-Exact : goal.returns-in-Exact
returns-in-Exact c =
    let b = c.in-Exact.bracket in (
      Some b.layout.items,
      b.log,
      found_exactly (Some c.args.steps) c.args.instance.now b (rw c.in-Exact.is at c.in_ok-bracket.ensures.value)
          (rw c.in-Exact.is at c.in_ok-bracket.ensures.steps),
    )

pub returns-in-Open : goal.returns-in-Open
returns-in-Open c =
    let b = c.in-Open.bracket in (
      Some b.layout.items,
      b.log,
      left_open (Some c.args.steps) c.args.instance.now b (rw c.in-Open.is at c.in_ok-bracket.ensures.value)
          (rw c.in-Open.is at c.in_ok-bracket.ensures.steps) (rw c.in-Open.is at c.in_ok-bracket.ensures.left),
    )
