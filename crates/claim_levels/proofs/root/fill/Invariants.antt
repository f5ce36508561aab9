use Rattle.std.proofs.Common.{◌^◌, ℕ, ◌<◌, ◌≤◌, slice_index}
use Rattle.std.specs.List.{AllWithin}
use Rattle.claim_levels.proofs.Words.{IsLevel, last_claim}
use Rattle.claim_levels.proofs.root.fill.Given as goal

abbrev pub invariant-loop-b : goal.invariant-loop-b
invariant-loop-b l = record {
  each : (c : ℕ) → c < l.b → IsLevel l.sky.instance (last_claim l.sky.claims) c (slice_index l.levels c);
  low : AllWithin (λ level. level ≤ 2 ^ 55) l.levels 0 l.b;
}
