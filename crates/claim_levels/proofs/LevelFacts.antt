-- Levels of a buffer of size 3 beside one of size 1 that stands at multiples of 4 alone: in the claim of both without
-- bounds, and in what is left of it where the first one stands at 0.
use Rattle.std.proofs.Common.{◌≡◌, ◌≢◌, ◌+◌, ◌^◌, ◌<◌, ℕ, zero, suc, List, [], ◌∷◌, length, slice_index, slice_index_or, ◌≤◌, inl, inr, refl, sym, arith}
use Rattle.claim_levels.proofs.Words.{buffer, do_share, is_live, some_before, Claim, Entry, IsClaim, IsIn, child, step, up, small_below, HasBuffer, entry_of, AreLevels, IsLevel, entry_in}
use Rattle.claim_levels.specs.Children.{AreOfChild}
use Rattle.claim_levels.specs.Levels.{AreKept, HasLowChild, level_of, levels_of}
use Rattle.claim_levels.specs.Lifted.{lifted}

abbrev pub root : Claim
root = (0, 0) ∷ (1, 0) ∷ []

abbrev pub rest : Claim
rest = (1, 3) ∷ []

pub differ : (m n : ℕ) → m < n → m ≡ n → ⊥
differ m n lt h = omega arith

-- ---- the level of a buffer
-- the bound 3 of the aligned one is met at 4
five_for_aligned : IsLevel small_below rest 1 5
unfolding up buffer
five_for_aligned = record { inside = λ h. refl; outside = λ out. absurd (out (inl refl)) }

not_its_bound : IsLevel small_below rest 1 4 → ⊥
unfolding up buffer
not_its_bound h = differ 4 5 (omega arith) (h.inside (inl refl))

not_in_rest : HasBuffer rest 0 → ⊥
not_in_rest (inl q) = omega (arith, q)
not_in_rest (inr z) = z

none_outside : IsLevel small_below rest 0 0
none_outside = record { inside = λ h. absurd (not_in_rest h); outside = λ out. refl }

some_outside : IsLevel small_below rest 0 1 → ⊥
some_outside h = differ 0 1 (omega arith) (sym (h.outside not_in_rest))

-- ---- the levels of a claim
pub root_is_claim : IsClaim small_below root
root_is_claim = record { rises = (above, ((λ y i. absurd i), tt)); in_range = in_range }
  where
    above : (y : ℕ) → IsIn y (1 ∷ []) → 0 < y
    above y (inl q) = omega (arith, q)
    above y (inr z) = absurd z

    in_range : (e : Entry) → IsIn e root → e.0 < 2
    in_range e (inl q) = rw q (omega arith)
    in_range e (inr (inl q)) = rw q (omega arith)
    in_range e (inr (inr z)) = absurd z

pub root_levels : AreLevels small_below root (1 ∷ 1 ∷ [])
unfolding up buffer
root_levels = record { claim = root_is_claim; count = refl; each = each }
  where
    each : (b : ℕ) → b < 2 → IsLevel small_below root b (slice_index (1 ∷ 1 ∷ []) b)
    each zero lt = record { inside = λ h. refl; outside = λ out. absurd (out (inl refl)) }
    each (suc zero) lt = record { inside = λ h. refl; outside = λ out. absurd (out (inr (inl refl))) }
    each (suc (suc b)) lt = absurd (omega arith)

-- there is one for each buffer of the instance, and each is one more than the up
too_few : AreLevels small_below root (1 ∷ []) → ⊥
too_few h = let k = h.count in omega arith

not_the_ups : AreLevels small_below root (0 ∷ 0 ∷ []) → ⊥
unfolding up buffer
not_the_ups h = differ 0 1 (omega arith) ((h.each 0 (omega arith)).inside (inl refl))

-- ---- what all levels keep: the first buffer has no level, and the low of the second is 4
second : Claim
second = (1, 4) ∷ []

kept : AreKept (0 ∷ 5 ∷ []) second
unfolding second
kept = record { few = omega arith; low = low; rises = ((λ y i. absurd i), tt); each = each; all = all }
  where
    low : (k d : ℕ) → k < 2 → slice_index_or (0 ∷ 5 ∷ []) k d ≤ 2 ^ 55
    low zero d lt = omega arith
    low (suc zero) d lt = omega arith
    low (suc (suc k)) d lt = absurd (omega arith)

    each : (e : Entry) → IsIn e second → slice_index (0 ∷ 5 ∷ []) e.0 ≡ e.1 + 1
    each e (inl q) = rw q refl
    each e (inr z) = absurd z

    all : (b : ℕ) → 0 < slice_index (0 ∷ 5 ∷ []) b → HasBuffer second b
    all zero lt = absurd (omega arith)
    all (suc zero) lt = inl refl
    all (suc (suc b)) lt = absurd (omega arith)

not_above : (k : Claim) → AreKept (5 ∷ (2 ^ 55 + 1) ∷ []) k → ⊥
not_above k h = let k : 2 ^ 55 + 1 ≤ 2 ^ 55 = h.low 1 0 (omega arith) in omega arith

not_more : (levels : List ℕ) (k : Claim) → length levels ≡ 4097 → AreKept levels k → ⊥
not_more levels k q h = let k = h.few in omega arith

-- the claim has the buffers that have a level, and no other bounds
not_another_bound : AreKept (5 ∷ []) ((0, 5) ∷ []) → ⊥
not_another_bound h = differ 5 6 (omega arith) (h.each (0, 5) (inl refl))

not_one_left_out : AreKept (5 ∷ []) [] → ⊥
not_one_left_out h = h.all 0 (omega arith)

-- ---- what is left of the two where the first one stands at 0
its_child : HasLowChild small_below (1 ∷ 1 ∷ []) 0
unfolding child step up do_share some_before is_live buffer
its_child = record { above = root; are = root_levels; has = inl refl; low = low }
  where
    low : (e : Entry) → IsIn e (child small_below root (0, 0)) → e.1 ≤ 2 ^ 54
    low e (inl q) = rw q (omega arith)
    low e (inr z) = absurd z

not_without_it : HasLowChild small_below (0 ∷ 5 ∷ []) 0 → ⊥
not_without_it h = let k = (h.are.each 0 (h.are.claim.in_range (entry_of h.above 0) (entry_in h.above 0 h.has))).inside
    h.has in
    omega (arith, k)

-- its levels: the second buffer alone has one
pub second_left : AreOfChild (1 ∷ 1 ∷ []) 0 (0 ∷ 5 ∷ [])
second_left = record { own = refl; some = some; all = all }
  where
    some : (c : ℕ) → 0 < slice_index (0 ∷ 5 ∷ []) c → 0 < slice_index (1 ∷ 1 ∷ []) c
    some zero lt = absurd (omega arith)
    some (suc zero) lt = omega arith
    some (suc (suc c)) lt = absurd (omega arith)

    all : (c : ℕ) → c ≢ 0 → 0 < slice_index (1 ∷ 1 ∷ []) c → 0 < slice_index (0 ∷ 5 ∷ []) c
    all zero ne lt = absurd (ne refl)
    all (suc zero) ne lt = omega arith
    all (suc (suc c)) ne lt = absurd (omega arith)

not_still_there : AreOfChild (1 ∷ 1 ∷ []) 0 (1 ∷ 5 ∷ []) → ⊥
not_still_there h = differ 0 1 (omega arith) (sym h.own)

not_without_both : AreOfChild (1 ∷ 1 ∷ []) 0 (0 ∷ 0 ∷ []) → ⊥
not_without_both h = let k = h.all 1 (λ q. differ 0 1 (omega arith) (sym q)) (omega arith) in omega (arith, k)

not_a_new_one : AreOfChild (1 ∷ 0 ∷ []) 0 (0 ∷ 5 ∷ []) → ⊥
not_a_new_one h = let k = h.some 1 (omega arith) in omega (arith, k)

-- the bound 3 of a buffer that is aligned to four becomes 4
lows_are_bounds : lifted small_below ((0, 0) ∷ (1, 3) ∷ []) ≡ (0, 0) ∷ (1, 4) ∷ []
unfolding up buffer
lows_are_bounds = refl

-- ---- all levels of a claim
both_at_0 : levels_of small_below root ≡ 1 ∷ 1 ∷ []
unfolding up buffer
both_at_0 = refl

-- the one that is not in the claim has none, and the bound 3 of the other one is met at 4
one_at_4 : levels_of small_below rest ≡ 0 ∷ 5 ∷ []
unfolding up buffer
one_at_4 = refl

no_third : level_of small_below rest 2 ≡ 0
no_third = refl
