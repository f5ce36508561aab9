-- Where the buffers of a claim end.
use Rattle.std.specs.Prelude.{ℕ, ◌+◌, ◌≤◌}
use Rattle.dsa_terms.specs.Buffers.{Instance, buffer}
use Rattle.dsa_terms.specs.Claims.{Claim, Entry, IsIn, up}
use Rattle.canonical_order.specs.Claims.{HasBuffer, entry_of}

-- where the buffer of the entry ends when it is put at its up
unfoldable pub end_of : Instance → Entry → ℕ
end_of I e = up I e + (buffer I e.0).size

-- the buffer is in the claim, and none of the claim ends lower
pub record IsLeastEnd (I : Instance) (l : Claim) (b : ℕ) : Type 0 where
  pub is_in : HasBuffer l b
  pub least : (f : Entry) → IsIn f l → end_of I (entry_of l b) ≤ end_of I f
