use Rattle.std.proofs.Common.{drop, length, ◌+◌, ◌-◌}
use Rattle.dsa_model.proofs.InBoth.{AreLeft}
use Rattle.dsa_model.proofs.live_ranges.first_in_both.Given as goal

abbrev pub invariant-loop-m : goal.invariant-loop-m
invariant-loop-m l = AreLeft l.mine l.theirs (drop l.m l.mine) (drop l.n l.theirs)

abbrev pub decreases-loop-m : goal.decreases-loop-m
decreases-loop-m l = (length l.mine - l.m) + (length l.theirs - l.n)
