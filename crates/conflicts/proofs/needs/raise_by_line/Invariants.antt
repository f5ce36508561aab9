use Rattle.std.proofs.Common.{◌≡◌, length}
use Rattle.conflicts.proofs.needs.raise_by_line.Given as goal

abbrev pub invariant-loop-pair : goal.invariant-loop-pair
invariant-loop-pair l = length l.needs ≡ length l.lows.instance.now

abbrev pub invariant-loop-pair-2 : goal.invariant-loop-pair-2
invariant-loop-pair-2 l = length l.needs ≡ length l.lows.instance.now
