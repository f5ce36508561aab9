use Rattle.std.proofs.Common.{◌≡◌, false, take}
use Rattle.layout_picture.specs.Sides.{has_colour}
use Rattle.layout_picture.proofs.colours.has_colour.Given as goal

abbrev pub invariant-loop-pair : goal.invariant-loop-pair
invariant-loop-pair l = has_colour l.colours (take l.pair-index l.pairs) l.colour ≡ false
