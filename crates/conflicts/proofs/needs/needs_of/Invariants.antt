use Rattle.std.proofs.Common.{◌≡◌, length}
use Rattle.conflicts.proofs.needs.needs_of.Given as goal

abbrev pub invariant-loop-place : goal.invariant-loop-place
invariant-loop-place l = length l.needs.items ≡ length l.lows.instance.now

abbrev pub invariant-loop-place-2 : goal.invariant-loop-place-2
invariant-loop-place-2 l = length l.needs.items ≡ length l.lows.instance.now
