-- What some buffers come to where they are stacked by one modulus, from one height on.
use Rattle.std.specs.Prelude.{ℕ, ◌+◌, ◌-◌, ◌%◌, ◌^◌, ◌<◌, ◌≤◌, ◌==◌, ◌&&◌, cond, nat_le, Bool, List, length, map, slice_index_or}
use Rattle.std.specs.List.{filter, sum_by}
use Rattle.std.specs.List.Sorted.{IsPermutation}
use Rattle.dsa_start_laws.specs.Piles.{rounded_size}
use Rattle.dsa_terms.specs.Buffers.{Buffer, Instance, buffer, floor, is_live}
use Rattle.dsa_terms.specs.Logs.{greatest}
use Rattle.dsa_terms.specs.Parts.{is_empty, numbers}

-- a modulus in question: within the limits of an alignment
pub record IsModulus (G : ℕ) : Type 0 where
  pub some : 1 ≤ G
  pub limit : G ≤ 2 ^ 32

-- the buffer is live at t, cannot start below H, and its alignment is a multiple of G
abbrev pub counts : Buffer → ℕ → ℕ → ℕ → Bool
counts b t H G = is_live b t && nat_le H (floor b) && (b.alignment % G == 0)

-- the same of the buffer of a number
abbrev pub counts_at : Instance → ℕ → ℕ → ℕ → ℕ → Bool
counts_at I t H G b = counts (buffer I b) t H G

-- the alignment of b is a multiple of G
abbrev pub is_counted : Instance → ℕ → ℕ → Bool
is_counted I G b = (buffer I b).alignment % G == 0

-- what rounding the size of b up to a multiple of G adds
abbrev pub rounding_of : Instance → ℕ → ℕ → ℕ
rounding_of I G b = rounded_size I G b - (buffer I b).size

-- the sum of the sizes of these buffers, each rounded up to a multiple of G
unfoldable pub total_of : Instance → ℕ → List ℕ → ℕ
total_of I G members = sum_by (rounded_size I G) members

-- the greatest single rounding
unfoldable pub spare_of : Instance → ℕ → List ℕ → ℕ
spare_of I G members = greatest (map (rounding_of I G) members)

-- H with the sum on it, less the greatest rounding, and 0 where there are none
unfoldable pub piled_on : Instance → ℕ → ℕ → List ℕ → ℕ
piled_on I H G members = cond (is_empty members) 0 (H + (total_of I G members - spare_of I G members))

-- those of these buffers that cannot start below H and whose alignment is a multiple of G
unfoldable pub counted_in : Instance → ℕ → ℕ → List ℕ → List ℕ
counted_in I H G members = filter (λ b. nat_le H (floor (buffer I b)) && is_counted I G b) members

-- what these buffers come to from H on
abbrev pub stack_in : Instance → ℕ → ℕ → List ℕ → ℕ
stack_in I H G members = piled_on I H G (counted_in I H G members)

-- all buffers of the instance, by falling floor
pub record IsFalling (I : Instance) (order : List ℕ) : Type 0 where
  pub all : IsPermutation (numbers (length I)) order
  pub falls : (i j d : ℕ) → i < j → j < length order →
      floor (buffer I (slice_index_or order j d)) ≤ floor (buffer I (slice_index_or order i d))
