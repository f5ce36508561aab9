use Rattle.std.proofs.Common.{◌≡◌, ◌++◌, take}
use Rattle.std.specs.List.{flat_map}
use Rattle.layout_picture.specs.Sides.{pairs_begun}
use Rattle.layout_picture.proofs.touching.push_begun.Given as goal

abbrev pub invariant-loop-side : goal.invariant-loop-side
invariant-loop-side l =
    l.pairs.items ≡ l.fn.pairs.items ++ flat_map (pairs_begun l.others) (take l.side-index l.sides)
