-- What a skyline's fields keep of the buffers that stand.
use Rattle.std.specs.Prelude.{cond, nat_lt, slice_index, ◌≡◌, ℕ, ◌+◌, ◌<◌, ◌≤◌, ◌↔◌, true, false, Bool, List, [], ◌∷◌, ◌++◌, length, slice_index_or, replicate}
use Rattle.std.specs.List.{All}
use Rattle.dsa_terms.specs.Buffers.{Instance, buffer}
use Rattle.dsa_terms.specs.Claims.{Claim, IsIn, Rises}
use Rattle.dsa_terms.specs.Parts.{whole}
use Rattle.dsa_model.specs.Buffer.{IsBuffer, buffer_limit}
use Rattle.lifetime.specs.SectionList.{count_of, sections_of, AreSectionsOf, SectionList}
use Rattle.canonical_order.specs.Claims.{HasBuffer}
use Rattle.skyline.specs.Standing.{claim_after, offset_after, IsStack}
use Rattle.skyline.specs.Places.{set_each, at_places}

-- the claims that these buffers left, the last one of them first; the claims are in their order of time
abbrev pub claims_of : Instance → Claim → List ℕ → List Claim
claims_of I root [] = root ∷ []
claims_of I root (b ∷ bs) = claims_of I root bs ++ claim_after I root (b ∷ bs) ∷ []

-- the offsets of the standing buffers
abbrev pub offsets_after : Instance → Claim → List ℕ → List ℕ
offsets_after I root [] = []
offsets_after I root (b ∷ bs) = offset_after I root bs b ∷ offsets_after I root bs

-- by section the top of the last standing buffer that has it
abbrev pub heights_after : Instance → SectionList → Claim → List ℕ → List ℕ
heights_after I S root [] = replicate (count_of S) 0
heights_after I S root (b ∷ bs) =
    set_each (λ _. offset_after I root bs b + (buffer I b).size) (sections_of S b) (heights_after I S root bs)

-- for each standing buffer, what the heights of its sections were before
abbrev pub IsSaved : Instance → SectionList → Claim → List (List ℕ) → List ℕ → Type 0
IsSaved I S root saved [] = Unit {0}
IsSaved I S root saved (b ∷ bs) =
    (slice_index_or saved b [] ≡ at_places (heights_after I S root bs) (sections_of S b)) × IsSaved I S root saved bs

-- the fields say what the standing buffers bs, the last one first, have left of the members
pub record Carries (I : Instance) (S : SectionList) (members bs ys hs : List ℕ) (rows : List (List ℕ))
    (flags : List Bool) : Type 0 where
  pub buffers : All IsBuffer I
  pub count : length I ≤ buffer_limit
  pub belongs : AreSectionsOf I S
  pub in_range : All (λ b. b < length I) members
  pub rise : Rises members
  pub stands : IsStack I (whole I members) bs
  pub offsets : ys ≡ offsets_after I (whole I members) bs
  pub heights : hs ≡ heights_after I S (whole I members) bs
  pub saved : IsSaved I S (whole I members) rows bs
  pub saved_count : length rows ≡ length I
  pub saved_room : (b : ℕ) → b < length I → IsIn b members →
      length (slice_index_or rows b []) ≡ length (sections_of S b)
  pub free_count : length flags ≡ length I
  pub free : (b : ℕ) → b < length I →
      (slice_index_or flags b false ≡ true) ↔ HasBuffer (claim_after I (whole I members) bs) b

-- the ledge by the standing buffers and their offsets, the last one first
abbrev pub ledge_at : List ℕ → List ℕ → ℕ → ℕ
ledge_at [] ys c = 0
ledge_at (b ∷ bs) ys c = slice_index ys 0 + cond (nat_lt c b) 1 0
