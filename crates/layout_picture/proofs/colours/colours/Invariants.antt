use Rattle.std.proofs.Common.{◌≡◌}
use Rattle.layout_picture.specs.Colours.{colours_below}
use Rattle.layout_picture.proofs.colours.colours.Given as goal

abbrev pub invariant-loop-b : goal.invariant-loop-b
invariant-loop-b l = l.colours.items ≡ colours_below l.instance l.offsets l.b
