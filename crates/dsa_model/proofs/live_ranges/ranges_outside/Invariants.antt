use Rattle.std.proofs.Common.{drop}
use Rattle.dsa_model.specs.Buffer.{lasting}
use Rattle.dsa_model.proofs.Outside.{IsWalked}
use Rattle.dsa_model.proofs.live_ranges.ranges_outside.Given as goal

abbrev pub invariant-loop-gap : goal.invariant-loop-gap
invariant-loop-gap l = IsWalked (lasting l.lower l.upper l.gaps) (drop l.gap-index l.gap-items) l.from l.ranges.items
