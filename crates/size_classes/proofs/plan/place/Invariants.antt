use Rattle.std.proofs.Common.{◌≡◌}
use Rattle.size_classes.specs.Plans.{AreSetBelow, start_of}
use Rattle.size_classes.proofs.plan.place.Given as goal

abbrev pub invariant-loop-class : goal.invariant-loop-class
invariant-loop-class l = record {
  set : AreSetBelow l.instance l.class l.offsets.items;
  end : l.end ≡ start_of l.instance l.class;
}
