-- Where a buffer may be put, the free ranges, and orders that have each buffer.
use Rattle.std.specs.Prelude.{◌≡◌, ◌<◌, ◌≤◌, ◌⊎◌, ℕ, List, length}
use Rattle.dsa_terms.specs.Buffers.{Instance, buffer}
use Rattle.dsa_terms.specs.Layouts.{IsMultiple, IsApart}
use Rattle.dsa_terms.specs.Claims.{Entry, IsIn}
use Rattle.dsa_terms.specs.Fits.{top, highest, Range}

-- b at x is aligned, at or above its lowest, and apart from each placed one
pub record IsClear (I : Instance) (b : ℕ) (placed : List Entry) (x : ℕ) : Type 0 where
  pub aligned : IsMultiple x (buffer I b).alignment
  pub above : (buffer I b).lowest ≤ x
  pub apart : (e : Entry) → IsIn e placed → IsApart (buffer I b) x (buffer I e.0) e.1

-- no placed one meets the range, and it ends at or below the greatest top
pub record IsOpen (I : Instance) (placed : List Entry) (r : Range) : Type 0 where
  pub not_empty : r.start < r.stop
  pub under : r.stop ≤ highest I placed
  pub free : (e : Entry) → IsIn e placed → (r.stop ≤ e.1) ⊎ (top I e ≤ r.start)

-- a free range: no greater one is open
pub record IsFreeRange (I : Instance) (placed : List Entry) (r : Range) : Type 0 where
  pub is_open : IsOpen I placed r
  pub greatest : (s : Range) → IsOpen I placed s → s.start ≤ r.start → r.stop ≤ s.stop → s ≡ r

-- each buffer is in the order
abbrev pub HasEach : Instance → List ℕ → Type 0
HasEach I order = (b : ℕ) → b < length I → IsIn b order
