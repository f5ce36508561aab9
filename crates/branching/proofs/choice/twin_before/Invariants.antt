use Rattle.std.proofs.Common.{drop}
use Rattle.branching.proofs.Words.{Claim, entry_of, AreLevels}
use Rattle.branching.proofs.TwinWalks.{IsTwinAmong}
use Rattle.branching.proofs.choice.twin_before.Given as goal

abbrev pub invariant-loop-c : goal.invariant-loop-c
invariant-loop-c l = (k : Claim) → AreLevels l.instance k l.levels →
    IsTwinAmong l.instance k (entry_of k l.b) (drop l.c-index k)
