-- Worked claims: bounds, children, tall buffers, and what is covered.
use Rattle.std.proofs.Common.{◌≡◌, ℕ, zero, suc, ◌<◌, inl, inr, [], ◌∷◌, slice_index, Some, None, refl, ap, lit≤, arith}
use Rattle.dsa_terms.specs.Buffers.{Buffer, Instance, is_live, buffer, do_share, floor, some_before}
use Rattle.dsa_terms.specs.Claims.{Entry, IsIn, Covers, up, step, child}
use Rattle.dsa_terms.specs.Search.{is_tall}
use Rattle.canonical_order.specs.Claims.{HasBuffer, bound_of, entries_below, entry_of, is_above_floor, least_buffer}
use Rattle.canonical_order.specs.Levels.{AreLevels, IsLevel}

abbrev plain : ℕ → ℕ → ℕ → ℕ → Buffer
plain lower upper size alignment = record {
  lower = lower;
  upper = upper;
  size = size;
  alignment = alignment;
  gaps = [];
  lowest = 0;
}

-- two buffers of size 1 at even offsets and one of size 2, all live at moment 0
abbrev three : Instance
three = plain 0 1 1 2 ∷ plain 0 1 1 2 ∷ plain 0 1 2 1 ∷ []

-- two buffers one after the other
abbrev in_turn : Instance
in_turn = plain 0 1 3 1 ∷ plain 1 2 5 1 ∷ []

-- ---- bounds
bound_there : bound_of ((0, 5) ∷ (2, 7) ∷ []) 2 ≡ Some 7
bound_there = refl

bound_not_there : bound_of ((0, 5) ∷ (2, 7) ∷ []) 1 ≡ None
bound_not_there = refl

entry_there : entry_of ((0, 5) ∷ (2, 7) ∷ []) 2 ≡ (2, 7)
entry_there = refl

below_two : entries_below 2 ((0, 5) ∷ (1, 6) ∷ (2, 7) ∷ []) ≡ (0, 5) ∷ (1, 6) ∷ []
below_two = refl

-- ---- bounds above floors
-- of two buffers, both of alignment 4, the floor of the first is 8, past its lowest, 6
abbrev fours : Instance
fours = record (plain 0 1 4 4) { lowest = 6 } ∷ plain 0 1 4 4 ∷ []

-- a bound may lie between the lowest and the floor, and at the floor
none_above : least_buffer (is_above_floor fours) ((0, 8) ∷ (1, 0) ∷ []) ≡ None
unfolding is_above_floor floor buffer
none_above = refl

one_above : least_buffer (is_above_floor fours) ((0, 9) ∷ (1, 1) ∷ []) ≡ Some 0
unfolding is_above_floor floor buffer
one_above = refl

-- the least one, and by its own floor
second_above : least_buffer (is_above_floor fours) ((0, 7) ∷ (1, 1) ∷ []) ≡ Some 1
unfolding is_above_floor floor buffer
second_above = refl

-- ---- levels
-- the low of buffer 1 is 2, past its bound, and buffer 0 is not in the claim
level_of_low : IsLevel three ((1, 1) ∷ (2, 1) ∷ []) 1 3
unfolding up buffer
level_of_low = record { inside = λ i. refl; outside = λ out. absurd (out (inl refl)) }

level_of_a_stranger : IsLevel three ((1, 1) ∷ (2, 1) ∷ []) 0 0
level_of_a_stranger = record { inside = λ i. absurd (strange i); outside = λ out. refl }
  where
    strange : HasBuffer ((1, 1) ∷ (2, 1) ∷ []) 0 → ⊥
    strange (inl q) = absurd cc
    strange (inr (inl q)) = absurd cc
    strange (inr (inr i)) = i

-- a low of 0 is written down too
no_level_of_zero : IsLevel three ((0, 0) ∷ []) 0 0 → ⊥
unfolding up buffer
no_level_of_zero h = absurd (let k : 0 ≡ 1 = h.inside (inl refl) in omega (arith, k))

two_levels : AreLevels three ((1, 1) ∷ (2, 1) ∷ []) (0 ∷ 3 ∷ 2 ∷ [])
unfolding up buffer
two_levels = record {
  claim = record { rises = (λ x i. ordered x i, (λ x i. absurd i, tt)); in_range = within };
  count = refl;
  each = each;
}
  where
    ordered : (x : ℕ) → IsIn x (2 ∷ []) → 1 < x
    ordered x (inl q) = rw q (lit≤ {m = 2} {n = 2} tt)
    ordered x (inr i) = absurd i

    within : (e : Entry) → IsIn e ((1, 1) ∷ (2, 1) ∷ []) → e.0 < 3
    within e (inl q) = let k : e.0 ≡ 1 = ap (λ (e : Entry). e.0) q in omega arith
    within e (inr (inl q)) = let k : e.0 ≡ 2 = ap (λ (e : Entry). e.0) q in omega arith
    within e (inr (inr i)) = absurd i

    each : (b : ℕ) → b < 3 → IsLevel three ((1, 1) ∷ (2, 1) ∷ []) b (slice_index (0 ∷ 3 ∷ 2 ∷ []) b)
    each zero lt = level_of_a_stranger
    each (suc zero) lt = level_of_low
    each (suc (suc zero)) lt = record { inside = λ i. refl; outside = λ out. absurd (out (inr (inl refl))) }
    each (suc (suc (suc b))) lt = absurd (omega arith)

-- one level is missing
too_few_levels : AreLevels three [] (0 ∷ 0 ∷ []) → ⊥
too_few_levels h = absurd (let k : 2 ≡ 3 = h.count in omega (arith, k))

-- ---- children
-- past the size of the first, which each other one shares a moment with
child_sharing : child three ((0, 0) ∷ (1, 0) ∷ (2, 0) ∷ []) (2, 0) ≡ (0, 2) ∷ (1, 2) ∷ []
unfolding child up step do_share some_before is_live buffer
child_sharing = refl

-- from the lows, 2 and 1, and not from the bounds, 1 and 1
child_from_low : child three ((1, 1) ∷ (2, 1) ∷ []) (1, 1) ≡ (2, 3) ∷ []
unfolding child up step do_share some_before is_live buffer
child_from_low = refl

-- a smaller number without a shared moment starts one above the first, a greater one where the first does
child_of_smaller : child in_turn ((0, 0) ∷ (1, 4) ∷ []) (1, 4) ≡ (0, 5) ∷ []
unfolding child up step do_share some_before is_live buffer
child_of_smaller = refl

child_of_greater : child in_turn ((0, 4) ∷ (1, 0) ∷ []) (0, 4) ≡ (1, 4) ∷ []
unfolding child up step do_share some_before is_live buffer
child_of_greater = refl

-- a bound above that stays
child_keeps_low : child in_turn ((0, 4) ∷ (1, 9) ∷ []) (0, 4) ≡ (1, 9) ∷ []
unfolding child up step do_share some_before is_live buffer
child_keeps_low = refl

-- ---- tall buffers
-- buffer 1 ends at 5 from its low, 4, though it would end at 4 from its bound, 3
tall_by_low : least_buffer (is_tall three 4) ((0, 2) ∷ (1, 3) ∷ (2, 3) ∷ []) ≡ Some 1
unfolding is_tall up buffer
tall_by_low = refl

-- to end at the capacity is not to be tall
none_tall : least_buffer (is_tall three 5) ((0, 2) ∷ (1, 3) ∷ (2, 3) ∷ []) ≡ None
unfolding is_tall up buffer
none_tall = refl

-- ---- covering
-- the bound 4 is covered by the low of the bound 3, and fewer buffers cover more
covered_by_low : Covers three ((1, 4) ∷ []) ((1, 3) ∷ (2, 0) ∷ [])
unfolding up buffer
covered_by_low e (inl q) = ((1, 3), inl refl, rw q refl, rw q (lit≤ {m = 4} {n = 4} tt))
covered_by_low e (inr i) = absurd i

-- but the claim of bound 3 does not have its two buffers among those of the other
not_covered : Covers three ((1, 3) ∷ (2, 0) ∷ []) ((1, 4) ∷ []) → ⊥
not_covered h = let k = h (2, 0) (inr (inl refl)) in apart k.0 k.1 k.2
  where
    apart : (f : Entry) → IsIn f ((1, 4) ∷ []) → f.0 ≡ 2 → ⊥
    apart f (inl q) e = let k : f.0 ≡ 1 = ap (λ (f : Entry). f.0) q in absurd (omega arith)
    apart f (inr i) e = absurd i
