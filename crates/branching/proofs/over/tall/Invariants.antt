use Rattle.std.proofs.Common.{drop}
use Rattle.branching.proofs.TallLevels.{NoneAmong}
use Rattle.branching.proofs.over.tall.Given as goal

abbrev pub invariant-loop-i : goal.invariant-loop-i
invariant-loop-i l = NoneAmong l.task.instance.now l.task.capacity l.levels (drop l.i l.left)
