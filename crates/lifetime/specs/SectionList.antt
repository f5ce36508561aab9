-- Sections as a value, and when they are those of an instance.
use Rattle.std.specs.Prelude.{◌≡◌, ◌≢◌, ℕ, ◌<◌, ◌^◌, ◌↔◌, List, [], length, slice_index_or}
use Rattle.std.specs.List.{All, filter}
use Rattle.dsa_terms.specs.Buffers.{Instance, buffer, is_live, IsLive, Share}
use Rattle.dsa_terms.specs.Claims.{IsIn, Rises}
use Rattle.dsa_terms.specs.Parts.{numbers}
use Rattle.dsa_terms.specs.Plans.{IsPeak}

-- a moment with some buffers
pub record Section : Type 0 where
  pub start : ℕ
  pub members : List ℕ

-- sections in order, and for each buffer the places of its sections
pub record SectionList : Type 0 where
  pub sections : List Section
  pub of_buffers : List (List ℕ)

-- what stands at a place that is no section's
abbrev pub no_section : Section
no_section = record { start = 0; members = [] }

-- the section of these buffers at this moment
abbrev pub section_with : ℕ → List ℕ → Section
section_with start members = record { start = start; members = members }

-- how many sections there are
abbrev pub count_of : SectionList → ℕ
count_of S = length S.sections

-- the moment of section s
abbrev pub start_of : SectionList → ℕ → ℕ
start_of S s = (slice_index_or S.sections s no_section).start

-- its buffers
abbrev pub members_of : SectionList → ℕ → List ℕ
members_of S s = (slice_index_or S.sections s no_section).members

-- the places of the sections of buffer b
abbrev pub sections_of : SectionList → ℕ → List ℕ
sections_of S b = slice_index_or S.of_buffers b []

-- what every section list keeps
pub record AreKeptSections (S : SectionList) : Type 0 where
  -- there are fewer than 2^32 sections
  pub limit : count_of S < 2 ^ 32
  -- starts rise
  pub rise : (r s : ℕ) → r < s → s < count_of S → start_of S r < start_of S s
  -- the members of a section rise
  pub members_rise : (s : ℕ) → s < count_of S → Rises (members_of S s)
  -- each is a buffer that has a list of places
  pub members_in_range : (s : ℕ) → s < count_of S → All (λ b. b < length S.of_buffers) (members_of S s)
  -- and there is one at least
  pub members_not_empty : (s : ℕ) → s < count_of S → members_of S s ≢ []
  -- the sections of a buffer rise
  pub places_rise : (b : ℕ) → b < length S.of_buffers → Rises (sections_of S b)
  -- each is a section of the list
  pub places_in_range : (b : ℕ) → b < length S.of_buffers → All (λ s. s < count_of S) (sections_of S b)
  -- and they are those that have the buffer
  pub each_other : (b s : ℕ) → b < length S.of_buffers → s < count_of S →
      IsIn s (sections_of S b) ↔ IsIn b (members_of S s)

-- the buffers that are live at t, in rising order
unfoldable pub live_at : Instance → ℕ → List ℕ
live_at I t = filter (λ b. is_live (buffer I b) t) (numbers (length I))

-- all buffers that are live at t are in that section
abbrev pub HasAllAt : Instance → SectionList → ℕ → ℕ → Type 0
HasAllAt I S t s = (b : ℕ) → b < length I → IsLive (buffer I b) t → IsIn b (members_of S s)

-- some section has both buffers
abbrev pub ShareSection : SectionList → ℕ → ℕ → Type 0
ShareSection S b c = (s : ℕ) × (s < count_of S) × IsIn b (members_of S s) × IsIn c (members_of S s)

-- the section list belongs to the instance
pub record AreSectionsOf (I : Instance) (S : SectionList) : Type 0 where
  -- there is a list of sections for each buffer
  pub buffers : length S.of_buffers ≡ length I
  -- starts rise
  pub rise : (r s : ℕ) → r < s → s < count_of S → start_of S r < start_of S s
  -- the members of a section are the buffers that are live at its start, in rising order
  pub live : (s : ℕ) → s < count_of S → members_of S s ≡ live_at I (start_of S s)
  -- and there is one at least
  pub not_empty : (s : ℕ) → s < count_of S → members_of S s ≢ []
  -- wherever something is live, all that is live is together in one section
  pub together : (t b : ℕ) → b < length I → IsLive (buffer I b) t → (s : ℕ) × (s < count_of S) × HasAllAt I S t s
  -- the least moment of greatest load is a start
  pub peak : (t : ℕ) → IsPeak I t → (s : ℕ) × (s < count_of S) × (start_of S s ≡ t)
  -- the sections of a buffer are those that have it live at their start, in rising order
  pub listed : (b : ℕ) → b < length I → sections_of S b ≡ filter (λ s. is_live (buffer I b) (start_of S s))
      (numbers (count_of S))
  -- two buffers share a section exactly where they share a moment
  pub shared : (b c : ℕ) → b < length I → c < length I → ShareSection S b c ↔ Share (buffer I b) (buffer I c)
