use Rattle.std.proofs.Common.{◌≡◌, map}
use Rattle.dsa_terms.specs.Parts.{numbers}
use Rattle.dsa_model.specs.Lists.{items_of}
use Rattle.lifetime.specs.Views.{section_of}
use Rattle.lifetime.proofs.Noting.{places_below}
use Rattle.lifetime.proofs.places.places.Given as goal

abbrev pub invariant-loop-s : goal.invariant-loop-s
invariant-loop-s l = map items_of l.lists.items ≡ map (places_below (map section_of l.sections) l.s) (numbers l.count)
