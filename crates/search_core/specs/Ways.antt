-- The way of a search: the claims down to the one that it is at, and what is kept of the choices of those above.
use Rattle.std.specs.Prelude.{◌≡◌, ℕ, ◌+◌, ◌<◌, ◌++◌, List, [], ◌∷◌, length, map, slice_index_or, IfSome}
use Rattle.dsa_terms.specs.Buffers.{Instance}
use Rattle.dsa_terms.specs.Claims.{Claim, child}
use Rattle.canonical_order.specs.Claims.{entry_of}
use Rattle.skyline.specs.Skies.{Sky, last_claim}
use Rattle.branching.specs.declared.notes.Notes.{Notes}
use Rattle.branching.specs.Tries.{IsLeft, IsOrderOf, Tried, chosen_of, tried_of}
use Rattle.search_core.specs.declared.kept.Kept.{Kept}

-- the claims down to the last one, and the tries of each claim above that one
pub record Way : Type 0 where
  pub sky : Sky
  pub frames : List Tried

-- the tries of each claim but for the last one, by what is noted of each
abbrev pub tries_of : Instance → List Claim → List Notes → List Tried
tries_of I [] ns = []
tries_of I (l ∷ ls) [] = []
tries_of I (l ∷ ls) (n ∷ ns) = tried_of I l n ∷ tries_of I ls ns

-- ---- what is kept
-- what is noted of the choices
abbrev pub notes_of : List Kept → List Notes
notes_of kept = map (λ (k : Kept). k.notes) kept

-- the claim of that number
abbrev pub claim_no : List Claim → ℕ → Claim
claim_no claims i = slice_index_or claims i []

-- a choice of the claim is left, the first one that is not refuted is kept, and so is the order, unless it was dropped
pub record IsKeptAt (I : Instance) (l : Claim) (k : Kept) : Type 0 where
  pub left : IsLeft (tried_of I l k.notes)
  pub chosen : k.chosen ≡ chosen_of (tried_of I l k.notes)
  pub order : IfSome k.order (IsOrderOf I l)

-- so much is kept of the claim l, and m is what is left of it by the choice that is kept
pub record IsKeptOf (I : Instance) (l m : Claim) (k : Kept) : Type 0 where
  pub at : IsKeptAt I l k
  pub is_child : m ≡ child I l (entry_of l k.chosen)

-- so much is kept of each claim but for the last one
pub record AreKeptAlong (I : Instance) (claims : List Claim) (kept : List Kept) : Type 0 where
  pub count : length kept + 1 ≡ length claims
  pub each : (i : ℕ) (d : Kept) → i < length kept →
      IsKeptOf I (claim_no claims i) (claim_no claims (i + 1)) (slice_index_or kept i d)

-- ---- a step of the way
-- the first way is the other one with one claim more, and so much was kept of the claim above it
pub record IsBackBy (before after : Way) (k : Kept) : Type 0 where
  pub frames : before.frames ≡ after.frames ++ tried_of after.sky.instance (last_claim after.sky.claims) k.notes ∷ []
  pub instance : after.sky.instance ≡ before.sky.instance
  pub claims : before.sky.claims ≡ after.sky.claims ++ last_claim before.sky.claims ∷ []
  pub kept : IsKeptAt after.sky.instance (last_claim after.sky.claims) k
