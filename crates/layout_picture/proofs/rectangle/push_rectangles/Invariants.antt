use Rattle.std.proofs.Common.{◌≡◌, ◌++◌, filter, map}
use Rattle.dsa_terms.specs.Parts.{numbers}
use Rattle.layout_picture.specs.Rectangles.{begins_at, rectangle_at}
use Rattle.layout_picture.proofs.rectangle.push_rectangles.Given as goal

abbrev pub invariant-loop-k : goal.invariant-loop-k
invariant-loop-k l = l.rectangles.items ≡ l.fn.rectangles.items
    ++ map (rectangle_at l.flags l.buffer l.place l.top) (filter (begins_at l.flags) (numbers l.k))
