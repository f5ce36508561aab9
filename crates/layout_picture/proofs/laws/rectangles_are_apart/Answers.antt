use Rattle.layout_picture.proofs.Apart.{drawn_apart, no_point}
use Rattle.layout_picture.proofs.laws.rectangles_are_apart.Goals as goal

pub returns : goal.returns
returns c = record { points = no_point; drawn = drawn_apart }
