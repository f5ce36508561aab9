use Rattle.layout_picture.proofs.Colouring.{differ_in_colour}
use Rattle.layout_picture.proofs.laws.colours_tell_apart.Goals as goal

pub returns : goal.returns
returns c = differ_in_colour
