use Rattle.std.proofs.Common.{◌<◌, length}
use Rattle.placing_search.proofs.stacking.Stack.lowest_from.Given as goal

abbrev pub invariant-loop-place : goal.invariant-loop-place
invariant-loop-place l = (l.lowest < length l.instance) × (l.first < length l.instance)
