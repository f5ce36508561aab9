-- What is wrong with arrays that tell of no instance.
use Rattle.std.specs.Prelude.{◌≡◌, ℕ, ◌-◌, ◌==◌, ◌&&◌, ◌||◌, nat_lt, not, Bool, [], ◌∷◌, length, map, sum, Option, None, option_map}
use Rattle.dsa_model.specs.Limits.{time_limit}
use Rattle.dsa_terms.specs.Buffers.{Buffer}
use Rattle.dsa_terms.specs.Parts.{numbers}
use Rattle.dsa_model.specs.Buffer.{buffer_fault, first_fault, when, buffer_limit}
use Rattle.dsa_plan.specs.Arrays.{Arrays, buffer_at}
use Rattle.dsa_plan.specs.declared.fault.ArraysFault.{ArraysFault}
use Rattle.dsa_plan.specs.declared.fault.ArraysFault.TheVariants.{LengthsDiffer, TooMany, BadBuffer}
use Rattle.dsa_plan.specs.declared.fault.NumbersFault.{NumbersFault}
use Rattle.dsa_plan.specs.declared.fault.NumbersFault.TheVariants as numbers_fault_is

-- each array of numbers has n items
abbrev pub have_numbers : Arrays → ℕ → Bool
have_numbers a n =
    (length a.lower == n)
    && (length a.upper == n)
    && (length a.size == n)
    && (length a.alignment == n)
    && (length a.lowest == n)

-- there are n counts of gaps, or none, and they add up to the number of gaps
abbrev pub have_gaps : Arrays → ℕ → Bool
have_gaps a n =
    ((length a.gap_counts == 0) || (length a.gap_counts == n))
    && (sum a.gap_counts == length a.gaps)

-- the arrays tell of n buffers
unfoldable pub have_one_length : Arrays → ℕ → Bool
have_one_length a n = have_numbers a n && have_gaps a n

-- what is wrong with the numbers of a buffer
abbrev pub numbers_fault : Buffer → Option NumbersFault
numbers_fault b = first_fault (
    when (nat_lt time_limit b.lower || nat_lt time_limit b.upper) numbers_fault_is.TimeTooLarge
    ∷ option_map numbers_fault_is.Buffer (buffer_fault b)
    ∷ [])

-- what is wrong with buffer b
unfoldable pub fault_at : Arrays → ℕ → Option ArraysFault
fault_at a b = option_map (BadBuffer b) (numbers_fault (buffer_at a b))

-- what is wrong with the first buffer with which something is
unfoldable pub buffers_fault : Arrays → Option ArraysFault
buffers_fault a = first_fault (map (fault_at a) (numbers (length a.lower)))

-- what is wrong with arrays that are to tell of n buffers
abbrev pub arrays_fault : Arrays → ℕ → Option ArraysFault
arrays_fault a n = first_fault (
    when (not (have_one_length a n)) LengthsDiffer
    ∷ when (nat_lt buffer_limit n) TooMany
    ∷ buffers_fault a
    ∷ [])

-- nothing is wrong with arrays that are to tell of n buffers
abbrev pub AreSound : Arrays → ℕ → Type 0
AreSound a n = arrays_fault a n ≡ None
