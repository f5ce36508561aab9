use Rattle.std.proofs.Common.{◌-◌, length}
use Rattle.search_core.proofs.Passing.{IsPassing}
use Rattle.search_core.proofs.walk.Walk.proceed.Given as goal

abbrev pub decreases-choices : goal.decreases-choices
decreases-choices l = length l.frame.order - length l.frame.refuted

abbrev pub invariant-choices : goal.invariant-choices
invariant-choices l =
    IsPassing l.task.instance.now l.task.capacity l.log.lines l.fn.self l.fn.frame l.self l.frame
