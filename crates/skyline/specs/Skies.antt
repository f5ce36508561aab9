-- A skyline as its callers see it.
use Rattle.std.specs.Prelude.{ℕ, ◌-◌, ◌^◌, ◌<◌, List, [], ◌∷◌, length, slice_index_or}
use Rattle.dsa_terms.specs.Buffers.{Instance}
use Rattle.dsa_terms.specs.Claims.{Claim, Entry, IsIn}
use Rattle.dsa_terms.specs.Parts.{whole}
use Rattle.lifetime.specs.SectionList.{SectionList}

-- a list of claims of an instance with its sections
pub record Sky : Type 0 where
  pub instance : Instance
  pub sections : SectionList
  pub claims : List Claim

-- the whole claim of the members alone
abbrev pub at_first : Instance → SectionList → List ℕ → Sky
at_first I S members = record { instance = I; sections = S; claims = whole I members ∷ [] }

-- the first claim of the list
abbrev pub first_claim : List Claim → Claim
first_claim claims = slice_index_or claims 0 []

-- the last claim of the list
abbrev pub last_claim : List Claim → Claim
last_claim claims = slice_index_or claims (length claims - 1) []

-- all bounds of the claims are below 2^54
abbrev pub AreLow : List Claim → Type 0
AreLow claims = (l : Claim) (e : Entry) → IsIn l claims → IsIn e l → e.1 < 2 ^ 54
