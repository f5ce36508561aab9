use Rattle.std.proofs.Common.{◌≡◌, take}
use Rattle.log_text.proofs.write_second.wide.Given as goal

abbrev pub invariant-loop-b : goal.invariant-loop-b
invariant-loop-b l = l.pairs.items ≡ take l.b-index l.claim
