use Rattle.std.proofs.Common.{◌≡◌, ◌+◌, sum, take}
use Rattle.dsa_plan.proofs.lengths.do_add_up.Given as goal

abbrev pub invariant-loop-count : goal.invariant-loop-count
invariant-loop-count l = sum (take l.count-index l.counts) + l.left ≡ l.gaps
