use Rattle.std.proofs.Common.{◌≡◌, ◌*◌, ◌<◌, length}
use Rattle.placing_search.proofs.meetings.Meetings.of.Given as goal

abbrev pub invariant-loop-b : goal.invariant-loop-b
invariant-loop-b l = length l.words.items ≡ length l.instance * l.width

abbrev pub invariant-loop-c : goal.invariant-loop-c
invariant-loop-c l = (length l.words.items ≡ length l.instance * l.width) × (l.b < length l.instance)
