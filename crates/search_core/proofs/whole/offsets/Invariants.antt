use Rattle.std.proofs.Common.{◌≡◌, ℕ, ◌<◌, drop, length, slice_index}
use Rattle.search_core.proofs.Words.{number_of}
use Rattle.search_core.proofs.whole.offsets.Given as goal

abbrev pub invariant-loop-i : goal.invariant-loop-i
invariant-loop-i l = record {
  count : length l.offsets.items ≡ length l.instance;
  each : (b : ℕ) → b < length l.instance → slice_index l.offsets.items b ≡ number_of (drop l.i l.seats) b;
}
