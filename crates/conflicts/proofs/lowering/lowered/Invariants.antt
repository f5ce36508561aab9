use Rattle.std.proofs.Common.{◌≡◌, ◌++◌, map, drop}
use Rattle.conflicts.specs.Eased.{lowered}
use Rattle.conflicts.proofs.lowering.lowered.Given as goal

abbrev pub invariant-loop-pair : goal.invariant-loop-pair
invariant-loop-pair l =
    l.pairs.items ++ map (lowered l.instance) (drop l.pair-index l.claim) ≡ map (lowered l.instance) l.claim
