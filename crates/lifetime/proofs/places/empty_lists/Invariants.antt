use Rattle.std.proofs.Common.{◌≡◌, [], map}
use Rattle.dsa_terms.specs.Parts.{numbers}
use Rattle.dsa_model.specs.Lists.{items_of}
use Rattle.lifetime.proofs.places.empty_lists.Given as goal

abbrev pub invariant-loop-places : goal.invariant-loop-places
invariant-loop-places l = map items_of l.lists.items ≡ map (λ _. []) (numbers l.places-index)
