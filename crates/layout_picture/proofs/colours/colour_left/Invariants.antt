use Rattle.std.proofs.Common.{◌≡◌, not, [], filter}
use Rattle.dsa_terms.specs.Parts.{numbers}
use Rattle.layout_picture.specs.Sides.{has_colour}
use Rattle.layout_picture.proofs.colours.colour_left.Given as goal

abbrev pub invariant-loop-colour : goal.invariant-loop-colour
invariant-loop-colour l = filter (λ k. not (has_colour l.colours l.pairs k)) (numbers l.colour) ≡ []
