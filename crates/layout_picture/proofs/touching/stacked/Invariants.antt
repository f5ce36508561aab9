use Rattle.std.proofs.Common.{◌≡◌, map, take}
use Rattle.layout_picture.specs.Sides.{lower_side, upper_side}
use Rattle.layout_picture.proofs.touching.stacked.Given as goal

abbrev pub invariant-loop-rectangle : goal.invariant-loop-rectangle
invariant-loop-rectangle l = record {
  ends : l.ends.items ≡ map upper_side (take l.rectangle-index l.rectangles);
  begins : l.begins.items ≡ map lower_side (take l.rectangle-index l.rectangles);
}
