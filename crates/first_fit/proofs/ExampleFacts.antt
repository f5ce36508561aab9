-- What the definitions come to on small instances.
use Rattle.std.proofs.Common.{◌≡◌, ◌^◌, ◌-◌, ◌<◌, ◌⊎◌, inl, inr, true, false, ℕ, [], ◌∷◌, length, None, Some, refl, arith}
use Rattle.dsa_terms.specs.Buffers.{buffer, do_share, floor, is_live, some_before}
use Rattle.dsa_terms.specs.Claims.{IsIn}
use Rattle.dsa_terms.specs.Fits.{best_place, first_place, free_ranges, highest, holds, is_free, is_tighter, least_from, neighbours, stretches, top, is_clear}
use Rattle.dsa_terms.specs.Orders.{falls_by, rises_by}
use Rattle.dsa_terms.proofs.Examples.{evens, five, high_fours, lifted, low, two_of_four, unlike}
use Rattle.dsa_terms.proofs.Places.{all_from_in}
use Rattle.first_fit.specs.Free.{narrowed, narrower, range_of}
use Rattle.first_fit.specs.Orders.{before_by, numbers_in_order, order_key, keyed}
use Rattle.first_fit.specs.Rules.{IsOrderOf, rule_of}
use Rattle.first_fit.specs.Starts.{offsets_by}
use Rattle.first_fit.specs.declared.fits.Fit.TheVariants.{Best, First}
use Rattle.first_fit.specs.declared.orders.Order.TheVariants.{AreaFalling, LowerRising, SizeFalling}
use Rattle.first_fit.proofs.Gaps.{between}

-- the first range, the shorter one, and of two that are as long the lower one
first_range : narrower None (between 3 5) ≡ Some (between 3 5)
first_range = refl

shorter_range : narrower (Some (between 0 3)) (between 4 5) ≡ Some (between 4 5)
unfolding is_tighter
shorter_range = refl

lower_range : narrower (Some (between 0 2)) (between 4 6) ≡ Some (between 0 2)
unfolding is_tighter
lower_range = refl

-- buffer 2 of `evens` has size 2
no_room : narrowed evens 2 None (between 4 5) ≡ None
unfolding holds least_from buffer
no_room = refl

-- buffer 0 of `low` has size 4, and its lowest is 6
room_from_6 : narrowed low 0 None (between 0 10) ≡ Some (between 0 10)
unfolding holds least_from buffer
room_from_6 = refl

no_room_from_6 : narrowed low 0 None (between 0 9) ≡ None
unfolding holds least_from buffer
no_room_from_6 = refl

same_addresses : range_of (record { start = 4; stop = 6 }) ≡ between 4 6
same_addresses = refl

-- keys, and the three orders
size_key : keyed SizeFalling evens 2 ≡ (2 ^ 128 - 3, 2)
unfolding buffer
size_key = refl

lower_key : keyed LowerRising unlike 1 ≡ (4, 1)
unfolding buffer
lower_key = refl

area_key : order_key AreaFalling (buffer five 3) ≡ 2 ^ 128 - 49
unfolding buffer
area_key = refl

-- of two buffers of one size the lower number comes first
lower_number_first : before_by SizeFalling evens 0 1 ≡ true
unfolding falls_by buffer
lower_number_first = refl

not_the_higher : before_by SizeFalling evens 1 0 ≡ false
unfolding falls_by buffer
not_the_higher = refl

by_size : numbers_in_order SizeFalling evens ≡ 2 ∷ 0 ∷ 1 ∷ []
unfolding falls_by buffer
by_size = refl

by_lower : numbers_in_order LowerRising five ≡ 0 ∷ 2 ∷ 4 ∷ 1 ∷ 3 ∷ []
unfolding rises_by buffer
by_lower = refl

by_area : numbers_in_order AreaFalling five ≡ 4 ∷ 3 ∷ 2 ∷ 1 ∷ 0 ∷ []
unfolding falls_by buffer
by_area = refl

-- two of the starts
first_by_lower : offsets_by unlike (First, LowerRising) ≡ 0 ∷ 9 ∷ 1 ∷ 2 ∷ 13 ∷ 6 ∷ []
unfolding rises_by neighbours first_place is_clear least_from is_free highest top floor do_share some_before is_live
    buffer
first_by_lower = refl

best_by_lower : offsets_by unlike (Best, LowerRising) ≡ 0 ∷ 9 ∷ 1 ∷ 8 ∷ 1 ∷ 6 ∷ []
unfolding rises_by neighbours best_place free_ranges stretches holds least_from is_tighter is_free highest top do_share
    some_before is_live buffer
best_by_lower = refl

-- the first of `low` goes to its lowest, and the other below it
first_of_low : offsets_by low (First, SizeFalling) ≡ 6 ∷ 0 ∷ []
unfolding falls_by neighbours first_place is_clear least_from is_free highest top floor do_share some_before is_live
    buffer
first_of_low = refl

best_of_low : offsets_by low (Best, SizeFalling) ≡ 6 ∷ 0 ∷ []
unfolding falls_by neighbours best_place free_ranges stretches holds least_from is_tighter is_free highest top do_share
    some_before is_live buffer
best_of_low = refl

-- the first of `lifted` goes to 1, and leaves no room below it
first_of_lifted : offsets_by lifted (First, SizeFalling) ≡ 1 ∷ 4 ∷ []
unfolding falls_by neighbours first_place is_clear least_from is_free highest top floor do_share some_before is_live
    buffer
first_of_lifted = refl

best_of_lifted : offsets_by lifted (Best, SizeFalling) ≡ 1 ∷ 4 ∷ []
unfolding falls_by neighbours best_place free_ranges stretches holds least_from is_tighter is_free highest top do_share
    some_before is_live buffer
best_of_lifted = refl

-- from 5 on the least multiple of four is 8
best_of_high_fours : offsets_by high_fours (Best, LowerRising) ≡ 8 ∷ 12 ∷ 0 ∷ []
unfolding rises_by neighbours best_place free_ranges stretches holds least_from is_tighter is_free highest top do_share
    some_before is_live buffer
best_of_high_fours = refl

-- ---- a rule, and an order that has each buffer once
first_rule : rule_of First ≡ first_place
first_rule = refl

best_rule : rule_of Best ≡ best_place
best_rule = refl

both_once : IsOrderOf two_of_four (1 ∷ 0 ∷ [])
both_once = record {
  count = refl;
  in_range = all_from_in (λ b. b < length two_of_four) (1 ∷ 0 ∷ []) below;
  each = λ b lt. among b (which b lt);
}
  where
    below : (b : ℕ) → IsIn b (1 ∷ 0 ∷ []) → b < length two_of_four
    below b (inl q) = omega arith
    below b (inr (inl q)) = omega arith
    below b (inr (inr i)) = absurd i

    which : (b : ℕ) → b < 2 → (b ≡ 1) ⊎ (b ≡ 0)
    which b lt = grind arith

    among : (b : ℕ) → (b ≡ 1) ⊎ (b ≡ 0) → IsIn b (1 ∷ 0 ∷ [])
    among b (inl q) = inl q
    among b (inr q) = inr (inl q)

not_one_twice : IsOrderOf two_of_four (0 ∷ 0 ∷ []) → ⊥
not_one_twice o = elim (o.each 1 (omega arith)) [
  | inl q ↦ omega arith
  | inr i ↦ elim i [ inl q ↦ omega arith | inr j ↦ absurd j ]
]
