-- Thin section lists, in which no section says less than its neighbour.
use Rattle.std.specs.Prelude.{◌≢◌, ℕ, ◌+◌, ◌-◌, ◌<◌, ◌≤◌, ◌⊎◌, List, length, slice_index_or}
use Rattle.dsa_terms.specs.Buffers.{Instance, buffer, IsLive}
use Rattle.dsa_terms.specs.Claims.{IsIn, Rises}
use Rattle.lifetime.specs.Runs.{ArePlainRuns, starts_of}
use Rattle.lifetime.specs.SectionList.{Section, SectionList, count_of, live_at, members_of, no_section, start_of}

-- each number of the one list is in the other
abbrev pub AreAmong : List ℕ → List ℕ → Type 0
AreAmong part whole = (b : ℕ) → IsIn b part → IsIn b whole

-- no section's members are all among those of the section before or after it
pub record AreThin (sections : List Section) : Type 0 where
  pub before : (s : ℕ) → s + 1 < length sections →
      AreAmong (slice_index_or sections (s + 1) no_section).members (slice_index_or sections s no_section).members → ⊥
  pub after : (s : ℕ) → s + 1 < length sections →
      AreAmong (slice_index_or sections s no_section).members (slice_index_or sections (s + 1) no_section).members → ⊥

-- a section list has such sections
abbrev pub IsThin : SectionList → Type 0
IsThin S = AreThin S.sections

-- u lies between the moments s and t, or is one of them
abbrev pub IsBetween : ℕ → ℕ → ℕ → Type 0
IsBetween s t u = ((s ≤ u) × (u ≤ t)) ⊎ ((t ≤ u) × (u ≤ s))

-- section s stands for moment t: it has all that is live between t and its start, and more than t if it starts later
pub record StandsFor (I : Instance) (S : SectionList) (s t : ℕ) : Type 0 where
  pub in_range : s < count_of S
  pub has_all : (u b : ℕ) → IsBetween t (start_of S s) u → b < length I → IsLive (buffer I b) u →
      IsIn b (members_of S s)
  pub more : t < start_of S s → live_at I t ≢ members_of S s

-- wherever something is live, a section stands for the moment
abbrev pub StandForAll : Instance → SectionList → Type 0
StandForAll I S = (t b : ℕ) → b < length I → IsLive (buffer I b) t → (s : ℕ) × StandsFor I S s t

-- k stands for x in the list: it has all members of the sections between them, and more than x if it starts later
pub record StandsIn (sections : List Section) (x k : Section) : Type 0 where
  pub has_all : (y : Section) → IsIn y sections → IsBetween x.start k.start y.start → AreAmong y.members k.members
  pub more : x.start < k.start → AreAmong k.members x.members → ⊥

-- some sections of a list are what thinning leaves of it: thin, in order, and standing for all of it
pub record IsThinnedTo (sections kept : List Section) : Type 0 where
  pub chosen : (x : Section) → IsIn x kept → IsIn x sections
  pub rise : Rises (starts_of kept)
  pub thin : AreThin kept
  pub stand : (x : Section) → IsIn x sections → (k : Section) × IsIn k kept × StandsIn sections x k

-- the sections are what thinning leaves of the plain runs
pub record AreThinRuns (I : Instance) (sections : List Section) : Type 0 where
  pub runs : List Section
  pub plain : ArePlainRuns I runs
  pub thinned : IsThinnedTo runs sections

-- the last section
abbrev pub last_of : List Section → Section
last_of sections = slice_index_or sections (length sections - 1) no_section
