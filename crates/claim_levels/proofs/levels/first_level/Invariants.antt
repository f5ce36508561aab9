use Rattle.std.proofs.Common.{drop}
use Rattle.claim_levels.proofs.Leading.{IsLeading}
use Rattle.claim_levels.proofs.levels.first_level.Given as goal

abbrev pub invariant-loop-i : goal.invariant-loop-i
invariant-loop-i l = IsLeading l.levels l.left (drop l.i l.left) l.first l.least
