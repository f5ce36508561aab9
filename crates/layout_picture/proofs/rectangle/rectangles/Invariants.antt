use Rattle.std.proofs.Common.{◌≡◌}
use Rattle.std.specs.List.{flat_map}
use Rattle.dsa_terms.specs.Parts.{numbers}
use Rattle.layout_picture.specs.Rectangles.{rectangles_of}
use Rattle.layout_picture.proofs.rectangle.rectangles.Given as goal

abbrev pub invariant-loop-b : goal.invariant-loop-b
invariant-loop-b l = l.all.items ≡ flat_map (rectangles_of l.instance l.offsets) (numbers l.b)
