-- Plans by size class, which need no search: one class above another, each as a row of slots of one width.
use Rattle.std.specs.Prelude.{◌≡◌, ℕ, zero, suc, ◌+◌, ◌*◌, ◌^◌, ◌<◌, List, [], map, length, slice_index}
use Rattle.dsa_terms.specs.Buffers.{Instance, buffer}
use Rattle.dsa_terms.specs.Parts.{numbers}
use Rattle.dsa_terms.specs.Plans.{IsPeak, load}
use Rattle.size_classes.specs.Classes.{class_of, count, in_class, last_class, width}
use Rattle.size_classes.specs.Slots.{slot_of}

-- where a class starts: the classes below it end there
abbrev pub start_of : Instance → ℕ → ℕ
start_of I zero = 0
start_of I (suc k) = start_of I k + width I k * count I k

-- the offset of a buffer in a class: its slot there
unfoldable pub offset_in : Instance → ℕ → ℕ → ℕ
offset_in I k b = start_of I k + width I k * slot_of I (in_class I k) b

-- its offset
unfoldable pub class_offset : Instance → ℕ → ℕ
class_offset I b = offset_in I (class_of (buffer I b).size) b

-- the plan by size class
unfoldable pub class_plan : Instance → List ℕ
class_plan I = map (class_offset I) (numbers (length I))

-- its height: where the last class ends
unfoldable pub class_height : Instance → ℕ
class_height I = start_of I (suc (last_class I))

-- the same with two to the power of each class in place of its width
abbrev pub powers_below : Instance → ℕ → ℕ
powers_below I zero = 0
powers_below I (suc k) = powers_below I k + 2 ^ k * count I k

-- the height that the classes would have if each were as wide as its sizes may be
unfoldable pub power_height : Instance → ℕ
power_height I = powers_below I (suc (last_class I))

-- all buffers are of this size
abbrev pub AllOf : Instance → ℕ → Type 0
AllOf I size = (b : ℕ) → b < length I → (buffer I b).size ≡ size

-- the load at the peak, and 0 for no buffers
pub record IsPeakLoad (I : Instance) (value : ℕ) : Type 0 where
  pub none : I ≡ [] → value ≡ 0
  pub some : (t : ℕ) → IsPeak I t → value ≡ load I t

-- each buffer of a class below k has its offset
pub record AreSetBelow (I : Instance) (k : ℕ) (offsets : List ℕ) : Type 0 where
  pub count : length offsets ≡ length I
  pub each : (b : ℕ) → b < length I → class_of (buffer I b).size < k → slice_index offsets b ≡ class_offset I b
