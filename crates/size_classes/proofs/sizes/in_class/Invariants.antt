use Rattle.std.proofs.Common.{◌≡◌}
use Rattle.size_classes.proofs.SizeLemmas.{class_below}
use Rattle.size_classes.proofs.sizes.in_class.Given as goal

abbrev pub invariant-loop-b : goal.invariant-loop-b
invariant-loop-b l = l.members.items ≡ class_below l.instance l.class l.b
