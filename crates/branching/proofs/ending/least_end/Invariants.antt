use Rattle.std.proofs.Common.{drop}
use Rattle.branching.proofs.Words.{Claim, AreLevels}
use Rattle.branching.proofs.Ends.{IsLeastBut}
use Rattle.branching.proofs.ending.least_end.Given as goal

abbrev pub invariant-loop-b : goal.invariant-loop-b
invariant-loop-b l = (k : Claim) → AreLevels l.instance k l.levels →
    IsLeastBut l.instance k (drop l.b-index k) l.least
