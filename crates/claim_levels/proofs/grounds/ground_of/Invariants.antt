use Rattle.std.proofs.Common.{◌≡◌, ◌++◌, drop, map}
use Rattle.claim_levels.proofs.Grounding.{by_level}
use Rattle.claim_levels.proofs.grounds.ground_of.Given as goal

abbrev pub invariant-loop-i : goal.invariant-loop-i
invariant-loop-i l =
    l.pairs.items ++ map (by_level l.levels) (drop l.i l.left) ≡ map (by_level l.levels) l.left
