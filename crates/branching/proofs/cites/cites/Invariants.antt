use Rattle.std.proofs.Common.{map, take}
use Rattle.std.specs.List.{AllZip}
use Rattle.branching.proofs.Words.{cite_value}
use Rattle.branching.specs.Cites.{IsCiteFor}
use Rattle.branching.proofs.cites.cites.Given as goal

abbrev pub invariant-loop-i : goal.invariant-loop-i
invariant-loop-i l = AllZip (IsCiteFor l.task.instance.now l.claim l.refuted) (take l.i l.pairs)
    (map cite_value l.cites.items)
