use Rattle.std.proofs.Common.{◌≡◌, length}
use Rattle.conflicts.proofs.parts.by_buffer.Given as goal

abbrev pub invariant-loop-place : goal.invariant-loop-place
invariant-loop-place l = length l.all.items ≡ length l.lows.instance.now
