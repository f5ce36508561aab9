use Rattle.std.proofs.Common.{◌≡◌, length}
use Rattle.search_tests.proofs.replays.levels_of.Given as goal

abbrev pub invariant-loop-b : goal.invariant-loop-b
invariant-loop-b l = length l.levels.items ≡ l.b
