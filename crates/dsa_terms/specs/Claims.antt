-- Claims: some of the buffers, with a lower bound for the offset of each.
use Rattle.std.specs.Prelude.{◌≡◌, ℕ, ◌+◌, ◌<◌, ◌≤◌, ◌≢◌, ◌⊎◌, not, cond, ◌==◌, nat_lt, max, List, [], ◌∷◌, map, length}
use Rattle.std.specs.List.{filter}
use Rattle.std.specs.Int.{next_multiple_of}
use Rattle.dsa_terms.specs.Buffers.{Instance, buffer, IsLive, do_share, floor}
use Rattle.dsa_terms.specs.Layouts.{IsMultiple, IsApart}

-- a buffer's number with a bound, or with an offset
abbrev pub Entry : Type 0
Entry = ℕ × ℕ

-- a claim: buffers in rising order, each with its bound
abbrev pub Claim : Type 0
Claim = List Entry

-- x is an item of the list
abbrev pub IsIn : {X : Type 0} → X → List X → Type 0
IsIn x [] = ⊥
IsIn x (y ∷ ys) = (x ≡ y) ⊎ IsIn x ys

-- each number is above the one before it
abbrev pub Rises : List ℕ → Type 0
Rises [] = Unit {0}
Rises (x ∷ xs) = ((y : ℕ) → IsIn y xs → x < y) × Rises xs

-- the buffers of the list, without their bounds
abbrev pub buffers_of : List Entry → List ℕ
buffers_of l = map (λ e. e.0) l

-- a finite map from buffers of the instance to bounds
pub record IsClaim (I : Instance) (l : Claim) : Type 0 where
  pub rises : Rises (buffers_of l)
  pub in_range : (e : Entry) → IsIn e l → e.0 < length I

-- the least multiple of the buffer's alignment at or above its bound
unfoldable pub up : Instance → Entry → ℕ
up I e = next_multiple_of e.1 (buffer I e.0).alignment

-- the number that the list has for b, and 0 where it has none
abbrev pub number_of : List Entry → ℕ → ℕ
number_of [] b = 0
number_of (e ∷ es) b = cond (e.0 == b) e.1 (number_of es b)

-- the offsets place the buffers of the claim: aligned, above their bounds, within C, apart where two share a moment
pub record Places (I : Instance) (C : ℕ) (l : Claim) (offset : ℕ → ℕ) : Type 0 where
  pub aligned : (e : Entry) → IsIn e l → IsMultiple (offset e.0) (buffer I e.0).alignment
  pub above : (e : Entry) → IsIn e l → e.1 ≤ offset e.0
  pub within : (e : Entry) → IsIn e l → offset e.0 + (buffer I e.0).size ≤ C
  pub apart : (e f : Entry) (t : ℕ) → IsIn e l → IsIn f l → e.0 ≢ f.0 →
      IsLive (buffer I e.0) t → IsLive (buffer I f.0) t →
      IsApart (buffer I e.0) (offset e.0) (buffer I f.0) (offset f.0)

-- a placement: one offset for each buffer of the claim and for no other
pub record IsPlacement (I : Instance) (C : ℕ) (l : Claim) (seats : List Entry) : Type 0 where
  pub same_buffers : buffers_of seats ≡ buffers_of l
  pub places : Places I C l (number_of seats)

-- the claim has no placement at C
abbrev pub IsRefuted : Instance → ℕ → Claim → Type 0
IsRefuted I C l = (seats : List Entry) → IsPlacement I C l seats → ⊥

-- how far above the offset of b, which comes first, c starts: past b where they share a moment, else 1 where c < b
unfoldable pub step : Instance → ℕ → ℕ → ℕ
step I b c = cond (do_share (buffer I b) (buffer I c)) (buffer I b).size (cond (nat_lt c b) 1 0)

-- the claim that is left where the buffer of e stands at its up and comes first
unfoldable pub child : Instance → Claim → Entry → Claim
child I l e = map (λ f. (f.0, max (up I f) (up I e + step I e.0 f.0))) (filter (λ f. not (f.0 == e.0)) l)

-- k covers l: its buffers are among those of l, each with a bound that is no higher than the up in l
abbrev pub Covers : Instance → Claim → Claim → Type 0
Covers I k l = (e : Entry) → IsIn e k → (f : Entry) × IsIn f l × (f.0 ≡ e.0) × (e.1 ≤ up I f)

-- no bound is above its buffer's floor, so each layout meets the claim
abbrev pub IsWhole : Instance → Claim → Type 0
IsWhole I l = (e : Entry) → IsIn e l → e.1 ≤ floor (buffer I e.0)
