-- The loads of sections, and the first of the greatest.
use Rattle.std.specs.Prelude.{◌≡◌, ℕ, ◌<◌, ◌≤◌, List, length, map, slice_index, sum_by, Option, MatchOption}
use Rattle.dsa_terms.specs.Buffers.{Instance, buffer}
use Rattle.dsa_terms.specs.Plans.{IsPeak, load}
use Rattle.lifetime.specs.SectionList.{Section, SectionList, start_of}

-- the load of each section, and a moment with its load
pub record LoadProfile : Type 0 where
  pub loads : List ℕ
  pub peak : Option (ℕ × ℕ)

-- the sum of the sizes of these buffers
abbrev pub load_of : Instance → List ℕ → ℕ
load_of I members = sum_by (λ b. (buffer I b).size) members

-- the load of each section is the sum of its members' sizes
abbrev pub loads_of : Instance → SectionList → List ℕ
loads_of I S = map (λ (x : Section). load_of I x.members) S.sections

-- the least moment of greatest load with that load, and none for no buffers alone
abbrev pub IsPeakOf : Instance → Option (ℕ × ℕ) → Type 0
IsPeakOf I peak = MatchOption peak (length I ≡ 0) (λ p. IsPeak I p.0 × (p.1 ≡ load I p.0))

-- of the first n sections it is the start and the load of the first one that none is above
pub record IsFirstGreatest (S : SectionList) (loads : List ℕ) (n : ℕ) (p : ℕ × ℕ) : Type 0 where
  pub place : ℕ
  pub in_range : place < n
  pub start : start_of S place ≡ p.0
  pub load : slice_index loads place ≡ p.1
  pub most : (s : ℕ) → s < n → slice_index loads s ≤ p.1
  pub first : (s : ℕ) → s < place → slice_index loads s < p.1

-- and none where there is no section
abbrev pub IsGreatestOf : SectionList → List ℕ → ℕ → Option (ℕ × ℕ) → Type 0
IsGreatestOf S loads n peak = MatchOption peak (n ≡ 0) (IsFirstGreatest S loads n)

-- the load is above that one, if there is one
abbrev pub Exceeds : ℕ → Option (ℕ × ℕ) → Type 0
Exceeds load peak = MatchOption peak (Unit {0}) (λ p. p.1 < load)
