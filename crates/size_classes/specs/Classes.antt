-- Classes of sizes: a class has all sizes up to a power of two that the class before it does not have.
use Rattle.std.specs.Prelude.{ℕ, ◌^◌, ◌==◌, nat_le, List, map, length}
use Rattle.std.specs.List.{filter, position_or_len}
use Rattle.dsa_terms.specs.Buffers.{Instance, buffer}
use Rattle.dsa_terms.specs.Logs.{greatest}
use Rattle.dsa_terms.specs.Parts.{numbers}
use Rattle.size_classes.specs.Slots.{most_live}

-- the class of a size: the least number of which two to the power is at least the size
unfoldable pub class_of : ℕ → ℕ
class_of size = position_or_len (λ k. nat_le size (2 ^ k)) (numbers size)

-- the buffers of a class, in rising order
unfoldable pub in_class : Instance → ℕ → List ℕ
in_class I k = filter (λ b. class_of (buffer I b).size == k) (numbers (length I))

-- the greatest size of these buffers, and 0 for none
unfoldable pub widest : Instance → List ℕ → ℕ
widest I members = greatest (map (λ b. (buffer I b).size) members)

-- the width of a class: its greatest size
abbrev pub width : Instance → ℕ → ℕ
width I k = widest I (in_class I k)

-- how many slots a class has: as many as its buffers that are live at one moment, at most
abbrev pub count : Instance → ℕ → ℕ
count I k = most_live I (in_class I k)

-- the greatest class that there is
unfoldable pub last_class : Instance → ℕ
last_class I = greatest (map (λ b. class_of (buffer I b).size) (numbers (length I)))
