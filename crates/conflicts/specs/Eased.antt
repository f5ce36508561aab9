-- Eased lines.
use Rattle.std.specs.Prelude.{◌≡◌, ◌≢◌, ℕ, ◌+◌, ◌-◌, ◌≤◌, true, List, [], map, min, slice_index_or, Option, MatchOption}
use Rattle.std.specs.Int.{next_multiple_of}
use Rattle.std.specs.List.{AllZip}
use Rattle.dsa_terms.specs.Buffers.{Instance, buffer}
use Rattle.dsa_terms.specs.Claims.{Claim, Entry, IsIn, Rises, buffers_of, up}
use Rattle.dsa_terms.specs.Lean.{CitesOwn}
use Rattle.dsa_terms.specs.Logs.{Cite, Line, Over, Cases, IsLegalCite, ends_below, is_twin, stack_height, stacked}

-- ---- Over lines
-- the least multiple of G from which on these buffers, stacked at multiples of G, end above C
unfoldable pub least_height : Instance → ℕ → ℕ → Claim → ℕ
least_height I C G s = next_multiple_of (C + 1 - stack_height I 0 G s) G

-- the buffers of the claim, each with the bound h
abbrev pub from_height : ℕ → Claim → Claim
from_height h l = map (λ e. (e.0, h)) l

-- the Over line of these buffers from their least height on
abbrev pub least_over : Instance → ℕ → ℕ → ℕ → Claim → Line
least_over I C T G s = Over (from_height (least_height I C G s) s) T (least_height I C G s) G

-- the Over line of what an Over line stacks
abbrev pub eased_over : Instance → ℕ → Claim → ℕ → ℕ → ℕ → Line
eased_over I C l T H G = least_over I C T G (stacked I l T H G)

-- ---- Cases lines
-- the entry with the least bound that has the same up
unfoldable pub lowered : Instance → Entry → Entry
lowered I e = (e.0, up I e + 1 - (buffer I e.0).alignment)

-- the entry with the number of its buffer for its bound, where that is lower
abbrev pub cut : List ℕ → Entry → Entry
cut needs e = (e.0, min (slice_index_or needs e.0 0) e.1)

-- the entry of the same buffer, with a bound that is no higher
abbrev pub IsNoHigher : Entry → Entry → Type 0
IsNoHigher e f = (f.0 ≡ e.0) × (f.1 ≤ e.1)

-- k has some of the buffers of l, each with a bound that is no higher
pub record IsLower (l k : Claim) : Type 0 where
  pub rises : Rises (buffers_of k)
  pub each : (f : Entry) → IsIn f k → (e : Entry) × IsIn e l × IsNoHigher e f

-- no buffer of the claim ends below the entry, and no twin stands before it
pub record HasNoOwn (I : Instance) (l : Claim) (e : Entry) : Type 0 where
  pub below : (f : Entry) → IsIn f l → ends_below I f e ≡ true → ⊥
  pub twin : (f : Entry) → IsIn f l → is_twin I f e ≡ true → ⊥

-- the answer is a legal cite of another buffer for the entry, below or twin, and none only where there is none
abbrev pub IsOwnOf : Instance → Claim → Entry → Option Cite → Type 0
IsOwnOf I l e answer = MatchOption answer (HasNoOwn I l e) (IsLegalCite I [] l e)

-- a legal Cases line of some of the buffers of l with no higher bounds, which cites other buffers wherever it can
pub record IsLowerCases (I : Instance) (earlier : List Line) (l : Claim) (line : Line) : Type 0 where
  pub claim : Claim
  pub cites : List Cite
  pub is : line ≡ Cases claim cites
  pub some : claim ≢ []
  pub lower : IsLower l claim
  pub legal : AllZip (IsLegalCite I earlier claim) claim cites
  pub own : AllZip (CitesOwn I claim) claim cites
