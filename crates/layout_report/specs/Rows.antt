-- The rows of a layout at one moment: the buffers that are live then, and the free ranges between them.
use Rattle.std.specs.Prelude.{◌≡◌, ℕ, ◌+◌, ◌-◌, ◌<◌, ◌≤◌, ◌⊎◌, List, [], ◌∷◌, map, length, slice_index, nat_lt, if◌then◌else◌, Some, None}
use Rattle.dsa_terms.specs.Buffers.{Instance, buffer, IsLive}
use Rattle.dsa_terms.specs.Claims.{IsIn, Rises}
use Rattle.dsa_terms.specs.Fits.{Range}
use Rattle.layout_report.specs.declared.row.Row.{Row}

-- the row of buffer b
abbrev pub buffer_row : Instance → List ℕ → ℕ → Row
buffer_row I offsets b = record { place = slice_index offsets b; size = (buffer I b).size; buffer = Some b }

-- the row of a free range
abbrev pub free_row : Range → Row
free_row r = record { place = r.start; size = r.stop - r.start; buffer = None }

-- the row of the addresses from x up to and not including y, where there are any
abbrev pub rows_between : ℕ → ℕ → List Row
rows_between x y = if nat_lt x y then free_row (record { start = x; stop = y }) ∷ [] else []

-- the range has addresses, ends at or below the height, and meets no buffer that is live at t
pub record IsUnused (I : Instance) (offsets : List ℕ) (t height : ℕ) (r : Range) : Type 0 where
  pub not_empty : r.start < r.stop
  pub under : r.stop ≤ height
  pub free : (b : ℕ) → b < length I → IsLive (buffer I b) t →
      (r.stop ≤ slice_index offsets b) ⊎ (slice_index offsets b + (buffer I b).size ≤ r.start)

-- a free range at t: it is unused, and no greater one is
pub record IsFreeAt (I : Instance) (offsets : List ℕ) (t height : ℕ) (r : Range) : Type 0 where
  pub unused : IsUnused I offsets t height r
  pub greatest : (s : Range) → IsUnused I offsets t height s → s.start ≤ r.start → r.stop ≤ s.stop → s ≡ r

-- the row is that of a buffer that is live at t, or that of a free range then
abbrev pub IsRowAt : Instance → List ℕ → ℕ → ℕ → Row → Type 0
IsRowAt I offsets t height row =
    ((b : ℕ) × (b < length I) × IsLive (buffer I b) t × (row ≡ buffer_row I offsets b))
    ⊎ ((r : Range) × IsFreeAt I offsets t height r × (row ≡ free_row r))

-- the rows at t: in order of place, one for each buffer that is live then and one for each free range, and no other
pub record AreRowsAt (I : Instance) (offsets : List ℕ) (t height : ℕ) (rows : List Row) : Type 0 where
  pub rise : Rises (map (λ (row : Row). row.place) rows)
  pub each : (row : Row) → IsIn row rows → IsRowAt I offsets t height row
  pub buffers : (b : ℕ) → b < length I → IsLive (buffer I b) t → IsIn (buffer_row I offsets b) rows
  pub ranges : (r : Range) → IsFreeAt I offsets t height r → IsIn (free_row r) rows

-- each row has some addresses, from x on, and above those of the row before it
abbrev pub AreStacked : ℕ → List Row → Type 0
AreStacked x [] = Unit {0}
AreStacked x (row ∷ rows) = (x ≤ row.place) × (0 < row.size) × AreStacked (row.place + row.size) rows

-- the rows of the buffers that are live at t, and no other, each above the one before it
pub record AreLiveRows (I : Instance) (offsets : List ℕ) (t : ℕ) (rows : List Row) : Type 0 where
  pub stacked : AreStacked 0 rows
  pub each : (row : Row) → IsIn row rows →
      (b : ℕ) × (b < length I) × IsLive (buffer I b) t × (row ≡ buffer_row I offsets b)
  pub all : (b : ℕ) → b < length I → IsLive (buffer I b) t → IsIn (buffer_row I offsets b) rows
