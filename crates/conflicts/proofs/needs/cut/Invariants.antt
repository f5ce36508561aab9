use Rattle.std.proofs.Common.{◌≡◌, ◌++◌, map, drop}
use Rattle.conflicts.specs.Eased.{cut}
use Rattle.conflicts.proofs.needs.cut.Given as goal

abbrev pub invariant-loop-pair : goal.invariant-loop-pair
invariant-loop-pair l = l.pairs.items ++ map (cut l.needs) (drop l.pair-index l.claim) ≡ map (cut l.needs) l.claim
