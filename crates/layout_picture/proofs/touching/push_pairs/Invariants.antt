use Rattle.std.proofs.Common.{◌≡◌, ◌++◌, map, take}
use Rattle.layout_picture.specs.Sides.{pair_of}
use Rattle.layout_picture.specs.declared.side.Side.{Side}
use Rattle.layout_picture.proofs.touching.push_pairs.Given as goal

abbrev pub invariant-loop-side : goal.invariant-loop-side
invariant-loop-side l =
    l.pairs.items ≡ l.fn.pairs.items ++ map (λ (s : Side). pair_of l.buffer s.buffer) (take l.side-index l.sides)
