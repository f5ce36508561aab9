use Rattle.std.proofs.Common.{◌≡◌, take}
use Rattle.dsa_terms.specs.Parts.{whole}
use Rattle.canonical_order.proofs.claim.whole_pairs.Given as goal

abbrev pub invariant-loop-b : goal.invariant-loop-b
invariant-loop-b l = l.pairs.items ≡ whole l.instance (take l.b-index l.members)
