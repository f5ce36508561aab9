use Rattle.std.proofs.Common.{◌≡◌}
use Rattle.dsa_terms.specs.Parts.{numbers}
use Rattle.core_find.proofs.members.all_members.Given as goal

abbrev pub invariant-loop-b : goal.invariant-loop-b
invariant-loop-b l = l.members.items ≡ numbers l.b
