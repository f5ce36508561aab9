use Rattle.std.proofs.Common.{drop}
use Rattle.branching.proofs.Words.{Claim, AreLevels}
use Rattle.branching.proofs.Order.{AreKeysBut}
use Rattle.branching.proofs.choice.choices.Given as goal

abbrev pub invariant-loop-b : goal.invariant-loop-b
invariant-loop-b l = (k : Claim) → AreLevels l.task.instance.now k l.levels →
    AreKeysBut l.task.instance.now k (drop l.b-index k) l.keys.items
