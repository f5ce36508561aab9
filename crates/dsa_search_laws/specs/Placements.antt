-- Placements of least weight, and the buffer that comes first in one.
use Rattle.std.specs.Prelude.{◌≡◌, ℕ, ◌+◌, ◌-◌, ◌*◌, ◌≤◌, false, List, [], ◌∷◌, length, slice_get}
use Rattle.std.specs.declared.option.Option.TheVariants.{Some}
use Rattle.dsa_terms.specs.Buffers.{Instance}
use Rattle.dsa_terms.specs.Claims.{Claim, Entry, IsIn, up, child, Places, IsRefuted}
use Rattle.dsa_terms.specs.Logs.{ends_below, is_twin, Line, claim_of}

-- the weight of offsets: that of buffer b counts n - b times, n being the number of buffers
abbrev pub weight : Instance → (ℕ → ℕ) → Claim → ℕ
weight I offset [] = 0
weight I offset (e ∷ es) = (length I - e.0) * offset e.0 + weight I offset es

-- the first buffer by offset and then number
pub record IsFirst (l : Claim) (offset : ℕ → ℕ) (e : Entry) : Type 0 where
  pub is_in : IsIn e l
  pub lowest : (f : Entry) → IsIn f l → offset e.0 ≤ offset f.0
  pub least : (f : Entry) → IsIn f l → offset e.0 ≡ offset f.0 → e.0 ≤ f.0

-- e's buffer stands at its up, no other one ends below it, it has no twin before it, and the offsets place the rest
pub record IsSettled (I : Instance) (C : ℕ) (l : Claim) (offset : ℕ → ℕ) (e : Entry) : Type 0 where
  pub at_up : offset e.0 ≡ up I e
  pub no_below : (f : Entry) → IsIn f l → ends_below I f e ≡ false
  pub no_twin : (f : Entry) → IsIn f l → is_twin I f e ≡ false
  pub rest : Places I C (child I l e) offset

-- the claims of these lines are refuted at C
abbrev pub AreRefuted : Instance → ℕ → List Line → Type 0
AreRefuted I C lines = (k : ℕ) (line : Line) → slice_get lines k ≡ Some line → IsRefuted I C (claim_of line)
