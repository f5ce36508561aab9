-- Stacks of two buffers of size 3 at multiples of four from 5 on, and so from 8 on, and of the same from 0 on with one
-- of size 2.
use Rattle.std.proofs.Common.{◌≡◌, ◌<◌, ◌≤◌, ◌&&◌, ℕ, zero, suc, inl, inr, Bool, true, false, cond, nat_le, [], ◌∷◌, ◌+◌, slice_index_or, refl, lit≤, arith}
use Rattle.std.proofs.lemmas.List.Sorted.{IsPermutation-refl, length_permutation}
use Rattle.dsa_start_laws.specs.Piles.{rounded_size}
use Rattle.dsa_terms.specs.Buffers.{Instance, buffer, floor, is_live}
use Rattle.dsa_terms.proofs.Examples.{plain, raised}
use Rattle.dsa_terms.proofs.NumberTests.{at_most}
use Rattle.lifetime.specs.SectionList.{SectionList}
use Rattle.lower_bounds.specs.Stacks.{IsFalling, IsModulus, counted_in, counts, counts_at, is_counted, piled_on, rounding_of, spare_of, stack_in, total_of}
use Rattle.lower_bounds.specs.Tallies.{AreTallies, IsTallest, IsTally, members_among, no_tally}
use Rattle.lower_bounds.specs.declared.tallies.Tally.{Tally}

abbrev pub fours : Instance
fours = raised 3 4 5 2 ∷ raised 3 4 5 2 ∷ []

abbrev pub three : Instance
three = plain 0 1 3 4 ∷ plain 0 1 3 4 ∷ plain 0 1 2 1 ∷ []

-- the two and one of size 2 that may start at 0
abbrev pub mixed : Instance
mixed = raised 3 4 5 2 ∷ raised 3 4 5 2 ∷ plain 0 1 2 1 ∷ []

four_is_modulus : IsModulus 4
four_is_modulus = record { some = lit≤ tt; limit = lit≤ tt }

zero_is_none : IsModulus 0 → ⊥
zero_is_none m = let k = m.some in omega arith

-- ---- what is counted
counted_by_four : is_counted three 4 0 ≡ true
unfolding buffer
counted_by_four = refl

not_counted_by_four : is_counted three 4 2 ≡ false
unfolding buffer
not_counted_by_four = refl

counts_while_live : counts_at three 0 0 4 1 ≡ true
unfolding buffer floor is_live
counts_while_live = refl

not_later : counts_at three 1 0 4 1 ≡ false
unfolding buffer floor is_live
not_later = refl

-- up to its floor, which is above its lowest
counts_from_8 : counts (raised 3 4 5 2) 0 8 4 ≡ true
unfolding floor is_live
counts_from_8 = refl

not_from_9 : counts (raised 3 4 5 2) 0 9 1 ≡ false
unfolding floor is_live
not_from_9 = refl

from_0_by_one : counted_in mixed 0 1 (0 ∷ 1 ∷ 2 ∷ []) ≡ 0 ∷ 1 ∷ 2 ∷ []
unfolding counted_in floor buffer
from_0_by_one = refl

from_8_by_one : counted_in mixed 8 1 (0 ∷ 1 ∷ 2 ∷ []) ≡ 0 ∷ 1 ∷ []
unfolding counted_in floor buffer
from_8_by_one = refl

from_9_by_one : counted_in mixed 9 1 (0 ∷ 1 ∷ 2 ∷ []) ≡ []
unfolding counted_in floor buffer
from_9_by_one = refl

-- ---- what they come to
rounding_by_four : rounding_of three 4 0 ≡ 1
unfolding rounded_size buffer
rounding_by_four = refl

total_by_four : total_of three 4 (0 ∷ 1 ∷ []) ≡ 8
unfolding total_of rounded_size buffer
total_by_four = refl

spare_by_four : spare_of three 4 (0 ∷ 1 ∷ []) ≡ 1
unfolding spare_of rounded_size buffer
spare_by_four = refl

seven_on_8 : piled_on three 8 4 (0 ∷ 1 ∷ []) ≡ 15
unfolding piled_on total_of spare_of rounded_size buffer
seven_on_8 = refl

none_on_8 : piled_on three 8 4 [] ≡ 0
unfolding piled_on
none_on_8 = refl

stack_by_one : stack_in mixed 0 1 (0 ∷ 1 ∷ 2 ∷ []) ≡ 8
unfolding counted_in piled_on total_of spare_of rounded_size floor buffer
stack_by_one = refl

stack_by_four : stack_in mixed 8 4 (0 ∷ 1 ∷ 2 ∷ []) ≡ 15
unfolding counted_in piled_on total_of spare_of rounded_size floor buffer
stack_by_four = refl

-- ---- by falling floor
falling : IsFalling mixed (0 ∷ 1 ∷ 2 ∷ [])
unfolding floor buffer
falling = record { all = IsPermutation-refl (0 ∷ 1 ∷ 2 ∷ []); falls = falls }
  where
    falls : (i j d : ℕ) → i < j → j < 3 → floor (buffer mixed (slice_index_or (0 ∷ 1 ∷ 2 ∷ []) j d))
        ≤ floor (buffer mixed (slice_index_or (0 ∷ 1 ∷ 2 ∷ []) i d))
    falls zero (suc zero) d lt jn = lit≤ tt
    falls zero (suc (suc zero)) d lt jn = lit≤ tt
    falls (suc zero) (suc (suc zero)) d lt jn = lit≤ tt
    falls i zero d lt jn = absurd (omega arith)
    falls (suc i) (suc zero) d lt jn = absurd (omega arith)
    falls (suc (suc i)) (suc (suc zero)) d lt jn = absurd (omega arith)
    falls i (suc (suc (suc j))) d lt jn = absurd (omega arith)

not_rising : IsFalling mixed (2 ∷ 0 ∷ 1 ∷ []) → ⊥
unfolding floor buffer
not_rising f = let k : 8 ≤ 0 = f.falls 0 1 0 (omega arith) (omega arith) in omega arith

not_some : IsFalling mixed (0 ∷ 1 ∷ []) → ⊥
not_some f = no 2 refl (length_permutation (0 ∷ 1 ∷ 2 ∷ []) (0 ∷ 1 ∷ []) f.all)
  where
    no : (n : ℕ) → n ≡ 2 → n ≡ 3 → ⊥
    no n e f = omega arith

-- ---- the tallest stack of the two at multiples of four is 8 with 4 and 3 on it
stack_of_two : (H : ℕ) → stack_in fours H 4 (0 ∷ 1 ∷ []) ≡ cond (nat_le H 8) (H + 7) 0
unfolding counted_in piled_on total_of spare_of rounded_size floor buffer
stack_of_two H = go (nat_le H 8)
  where
    go : (c : Bool) → piled_on fours H 4 (cond (c && true) (0 ∷ cond (c && true) (1 ∷ []) [])
        (cond (c && true) (1 ∷ []) [])) ≡ cond c (H + 7) 0
    go true = refl
    go false = refl

tallest : IsTallest fours 4 (0 ∷ 1 ∷ []) 15 8
unfolding buffer floor
tallest = record {
  most = λ H. rw (stack_of_two H) (most H (nat_le H 8) refl);
  reached = stack_of_two 8;
  lowest = λ H pos e. lowest H (nat_le H 8) (rw (stack_of_two H) at e);
  from = inr (0, inl refl, refl, refl);
}
  where
    most : (H : ℕ) (c : Bool) → nat_le H 8 ≡ c → cond c (H + 7) 0 ≤ 15
    most H true e = let k = at_most H 8 e in omega arith
    most H false e = omega arith

    lowest : (H : ℕ) (c : Bool) → cond c (H + 7) 0 ≡ 15 → 8 ≤ H
    lowest H true e = omega arith
    lowest H false e = omega arith

not_the_tallest : IsTallest fours 4 (0 ∷ 1 ∷ []) 14 8 → ⊥
not_the_tallest t = let k = t.most 8 in let e = stack_of_two 8 in omega arith

not_from_0 : IsTallest fours 4 (0 ∷ 1 ∷ []) 15 0 → ⊥
not_from_0 t = let k = t.reached in let e = stack_of_two 0 in omega arith

-- ---- tallies
abbrev tally : Tally
tally = record { total = 8; spare = 1; value = 15; height = 8 }

of_two : IsTally fours 4 (0 ∷ 1 ∷ []) tally
unfolding total_of spare_of rounded_size buffer
of_two = record { total = refl; spare = refl; tallest = tallest }

-- the sum is of rounded sizes
not_of_sizes : IsTally fours 4 (0 ∷ 1 ∷ []) (record { total = 6; spare = 1; value = 15; height = 8 }) → ⊥
unfolding total_of rounded_size buffer
not_of_sizes t = let k : 6 ≡ 8 = t.total in omega arith

of_none : IsTally fours 4 [] no_tally
unfolding total_of spare_of counted_in piled_on
of_none = record {
  total = refl;
  spare = refl;
  tallest = record { most = λ H. omega arith; reached = refl; lowest = λ H pos e. omega arith; from = inl refl };
}

abbrev pub one : SectionList
one = record { sections = record { start = 0; members = 0 ∷ 1 ∷ 2 ∷ [] } ∷ []; of_buffers = [] }

-- the third one is live at 0 alone
abbrev later : SectionList
later = record { sections = record { start = 1; members = 0 ∷ 1 ∷ [] } ∷ []; of_buffers = [] }

all_at_0 : members_among mixed one (2 ∷ 0 ∷ []) 0 ≡ 2 ∷ 0 ∷ []
unfolding members_among buffer is_live
all_at_0 = refl

first_at_1 : members_among mixed later (2 ∷ 0 ∷ []) 0 ≡ 0 ∷ []
unfolding members_among buffer is_live
first_at_1 = refl

of_one_section : AreTallies fours one 4 (0 ∷ 1 ∷ []) (tally ∷ [])
unfolding members_among buffer is_live
of_one_section = record { count = refl; each = each }
  where
    each : (s : ℕ) → s < 1 → IsTally fours 4 (members_among fours one (0 ∷ 1 ∷ []) s)
        (slice_index_or (tally ∷ []) s no_tally)
    each zero lt = of_two
    each (suc s) lt = absurd (omega arith)

not_of_two_sections : AreTallies fours one 4 (0 ∷ 1 ∷ []) (tally ∷ tally ∷ []) → ⊥
not_of_two_sections t = let k : 2 ≡ 1 = t.count in omega arith
