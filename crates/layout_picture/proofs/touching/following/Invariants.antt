use Rattle.std.proofs.Common.{◌≡◌, map}
use Rattle.dsa_terms.specs.Parts.{numbers}
use Rattle.layout_picture.specs.Sides.{left_side, right_side}
use Rattle.layout_picture.proofs.touching.following.Given as goal

abbrev pub invariant-loop-b : goal.invariant-loop-b
invariant-loop-b l = record {
  ends : l.ends.items ≡ map (right_side l.instance l.offsets) (numbers l.b);
  begins : l.begins.items ≡ map (left_side l.instance l.offsets) (numbers l.b);
}
