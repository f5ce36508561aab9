-- The levels of a child in the making.
use Rattle.std.specs.Prelude.{◌≡◌, ◌≢◌, ◌^◌, ◌⊎◌, ℕ, ◌<◌, ◌≤◌, List, length, slice_index}
use Rattle.dsa_terms.specs.Buffers.{Instance}
use Rattle.dsa_terms.specs.Claims.{Claim, Entry, IsIn, child}
use Rattle.canonical_order.specs.Claims.{entry_of}
use Rattle.canonical_order.specs.Levels.{AreLevels, IsLevel}
use Rattle.claim_levels.specs.declared.raising.Raising.{Raising}

-- where c has a level in a claim, its number is its level in the child by b
abbrev pub IsRaised : Instance → List ℕ → ℕ → List ℕ → ℕ → Type 0
IsRaised I levels b numbers c = 0 < slice_index levels c → (l : Claim) → AreLevels I l levels →
    IsLevel I (child I l (entry_of l b)) c (slice_index numbers c)

-- each number is the level in the claim, or that in the child by b
pub record IsRaising (I : Instance) (levels : List ℕ) (b : ℕ) (r : Raising) : Type 0 where
  pub count : length r.numbers.items ≡ length levels
  pub outside : (c : ℕ) → slice_index levels c ≡ 0 → slice_index r.numbers.items c ≡ 0
  pub each : (c : ℕ) → (slice_index r.numbers.items c ≡ slice_index levels c) ⊎ IsRaised I levels b r.numbers.items c
  -- none is above the top
  pub under : (c : ℕ) → slice_index r.numbers.items c ≤ r.top
  pub limit : r.top ≤ 2 ^ 55
  -- those that differ from the level in the claim are noted with that
  pub noted : (c : ℕ) → slice_index r.numbers.items c ≢ slice_index levels c →
      IsIn (c, slice_index levels c) r.changes.items
  -- and each that is noted has its level in the claim there
  pub were : (e : Entry) → IsIn e r.changes.items → e.1 ≡ slice_index levels e.0
  -- each of them has a level in the claim
  pub some : (e : Entry) → IsIn e r.changes.items → 0 < slice_index levels e.0
