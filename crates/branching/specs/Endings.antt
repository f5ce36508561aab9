-- Which buffer of a claim ends lowest.
use Rattle.std.specs.Prelude.{◌≡◌, ℕ, ◌^◌, ◌<◌, ◌≤◌}
use Rattle.dsa_terms.specs.Buffers.{Instance}
use Rattle.dsa_terms.specs.Claims.{Claim, Entry, IsIn}
use Rattle.canonical_order.specs.Claims.{HasBuffer, entry_of}
use Rattle.conflicts.specs.Ends.{end_of}
use Rattle.branching.specs.declared.ending.Ending.{Ending}

-- no buffer of the claim below n ends below the end of x; where that is below 2^63, it is the end of the buffer of x,
-- which is one of the claim
pub record IsLeastEnding (I : Instance) (l : Claim) (n : ℕ) (x : Ending) : Type 0 where
  pub least : (e : Entry) → IsIn e l → e.0 < n → x.end ≤ end_of I e
  pub is_end : x.end < 2 ^ 63 → HasBuffer l x.buffer × (x.end ≡ end_of I (entry_of l x.buffer))
