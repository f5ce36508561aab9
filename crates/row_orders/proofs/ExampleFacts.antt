-- Orders of small instances, and offsets that are carried back from them.
use Rattle.std.proofs.Common.{◌≡◌, ◌<◌, ℕ, zero, suc, inl, inr, [], ◌∷◌, map, slice_index_or, refl, lit<, arith}
use Rattle.dsa_terms.specs.Buffers.{buffer, do_share, is_live, some_before}
use Rattle.dsa_terms.specs.Claims.{IsIn}
use Rattle.dsa_terms.specs.Orders.{falls_by}
use Rattle.dsa_terms.specs.Plans.{layout_height}
use Rattle.dsa_terms.proofs.Examples.{gapped, small_below, unlike}
use Rattle.dsa_model.specs.Chosen.{some_of}
use Rattle.row_orders.specs.Carried.{HasEachOnce, carried_back, place_in}
use Rattle.row_orders.specs.Orders.{measure, met, numbers_in}
use Rattle.row_orders.specs.declared.orders.Order.TheVariants.{Area, File, Lifetime, Met, Upper}

-- ---- what falls along the orders
-- the first and the last meet all others, the third one these two alone
met_of_six : map (met unlike) unlike ≡ 18 ∷ 13 ∷ 8 ∷ 13 ∷ 13 ∷ 18 ∷ []
unfolding met do_share some_before is_live
met_of_six = refl

lifetimes : map (measure Lifetime unlike) unlike ≡ 4 ∷ 1 ∷ 2 ∷ 3 ∷ 4 ∷ 3 ∷ []
lifetimes = refl

-- gaps are counted to the lifetime
with_its_gap : measure Lifetime (gapped ∷ []) gapped ≡ 10
with_its_gap = refl

-- ---- six buffers in each order
by_file : numbers_in File unlike ≡ 0 ∷ 1 ∷ 2 ∷ 3 ∷ 4 ∷ 5 ∷ []
unfolding falls_by buffer
by_file = refl

by_area : numbers_in Area unlike ≡ 4 ∷ 2 ∷ 5 ∷ 0 ∷ 1 ∷ 3 ∷ []
unfolding falls_by buffer
by_area = refl

by_met : numbers_in Met unlike ≡ 0 ∷ 5 ∷ 1 ∷ 3 ∷ 4 ∷ 2 ∷ []
unfolding falls_by buffer met do_share some_before is_live
by_met = refl

by_lifetime : numbers_in Lifetime unlike ≡ 0 ∷ 4 ∷ 3 ∷ 5 ∷ 2 ∷ 1 ∷ []
unfolding falls_by buffer
by_lifetime = refl

by_upper : numbers_in Upper unlike ≡ 4 ∷ 3 ∷ 0 ∷ 1 ∷ 5 ∷ 2 ∷ []
unfolding falls_by buffer
by_upper = refl

-- ---- offsets at the places of an order
third_place : place_in (2 ∷ 0 ∷ 1 ∷ []) 1 ≡ 2
unfolding place_in
third_place = refl

three_back : carried_back (2 ∷ 0 ∷ 1 ∷ []) (7 ∷ 8 ∷ 9 ∷ []) ≡ 8 ∷ 9 ∷ 7 ∷ []
unfolding carried_back place_in
three_back = refl

-- ---- an order has each number once
three_once : HasEachOnce (2 ∷ 0 ∷ 1 ∷ [])
three_once = record { in_range = in_range; each = each }
  where
    in_range : (k d : ℕ) → k < 3 → slice_index_or (2 ∷ 0 ∷ 1 ∷ []) k d < 3
    in_range zero d lt = lit< tt
    in_range (suc zero) d lt = lit< tt
    in_range (suc (suc zero)) d lt = lit< tt
    in_range (suc (suc (suc k))) d lt = absurd (omega arith)

    each : (b : ℕ) → b < 3 → IsIn b (2 ∷ 0 ∷ 1 ∷ [])
    each zero lt = inr (inl refl)
    each (suc zero) lt = inr (inr (inl refl))
    each (suc (suc zero)) lt = inl refl
    each (suc (suc (suc b))) lt = absurd (omega arith)

-- 0 stands there twice, and 1 is not there
twice_is_none : HasEachOnce (0 ∷ 0 ∷ []) → ⊥
twice_is_none h = close (h.each 1 (lit< tt))
  where
    close : IsIn {X = ℕ} 1 (0 ∷ 0 ∷ []) → ⊥
    close (inl q) = cc
    close (inr (inl q)) = cc
    close (inr (inr i)) = i

-- 1 and 2 are no numbers below two
others_are_none : HasEachOnce (1 ∷ 2 ∷ []) → ⊥
others_are_none h = let k : 2 < 2 = h.in_range 1 0 (lit< tt) in omega arith

-- ---- the small one of large alignment below the large one
turned : some_of small_below (1 ∷ 0 ∷ []) ≡ buffer small_below 1 ∷ buffer small_below 0 ∷ []
turned = refl

turned_back : carried_back (1 ∷ 0 ∷ []) (0 ∷ 1 ∷ []) ≡ 1 ∷ 0 ∷ []
unfolding carried_back place_in
turned_back = refl

as_high : map (layout_height small_below) ((1 ∷ 0 ∷ []) ∷ (0 ∷ 4 ∷ []) ∷ []) ≡ 4 ∷ 5 ∷ []
unfolding layout_height buffer
as_high = refl

turned_height : map (layout_height (some_of small_below (1 ∷ 0 ∷ []))) ((0 ∷ 1 ∷ []) ∷ (4 ∷ 0 ∷ []) ∷ []) ≡ 4 ∷ 5 ∷ []
unfolding layout_height buffer
turned_height = refl
