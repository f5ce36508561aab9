use Rattle.std.proofs.Common.{◌≡◌, ◌-◌, ◌≤◌}
use Rattle.narrowing.proofs.one_capacity.settle.Given as goal

abbrev pub invariant-loop-alloc : goal.invariant-loop-alloc
invariant-loop-alloc g l = record {
  subject : g.T.Tries.subject l.tries ≡ l.instance;
  within : g.T.Tries.within l.tries l.capacity;
  units : g.T.Tries.units l.fn.tries ≤ g.T.Tries.units l.tries;
  used : g.T.Tries.units l.tries ≤ l.last;
  some : 1 ≤ l.slice;
}

abbrev pub decreases-loop-alloc : goal.decreases-loop-alloc
decreases-loop-alloc g l = l.last - g.T.Tries.units l.tries
