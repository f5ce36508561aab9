-- A buffer of a claim that is placed.
use Rattle.std.specs.Prelude.{◌≡◌, ◌≤◌, ◌^◌, ℕ, ◌+◌, List, slice_index}
use Rattle.dsa_terms.specs.Buffers.{Instance, buffer}
use Rattle.claim_levels.specs.declared.placed.Placed.{Placed}

-- its offset is one less than its level, and its end the sum of that and its size
pub record IsPlaced (I : Instance) (levels : List ℕ) (p : Placed) : Type 0 where
  pub offset : slice_index levels p.buffer ≡ p.offset + 1
  pub end : p.end ≡ p.offset + (buffer I p.buffer).size
  pub limit : p.offset ≤ 2 ^ 55
