use Rattle.std.proofs.Common.{◌≡◌, vec_len}
use Rattle.lifetime.proofs.places.entries.Given as goal

abbrev pub invariant-loop-section : goal.invariant-loop-section
invariant-loop-section l = vec_len l.entries ≡ l.count

abbrev pub invariant-loop-b : goal.invariant-loop-b
invariant-loop-b l = vec_len l.entries ≡ l.count
