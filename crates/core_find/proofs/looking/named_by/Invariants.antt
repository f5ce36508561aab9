use Rattle.std.proofs.Common.{◌≡◌, take}
use Rattle.core_find.specs.Carried.{named}
use Rattle.core_find.proofs.looking.named_by.Given as goal

abbrev pub invariant-loop-pair : goal.invariant-loop-pair
invariant-loop-pair l = l.named.items ≡ named l.members (take l.pair-index l.pairs)
