-- Two buffers of size 3 aligned to four, whose least capacity is 7, and their orders.
use Rattle.std.proofs.Common.{◌≡◌, ℕ, ◌+◌, ◌<◌, ◌≤◌, zero, suc, inl, inr, [], ◌∷◌, length, slice_index_or, refl, lit<, lit≤, arith}
use Rattle.std.specs.Global.{Vec}
use Rattle.dsa_terms.specs.Buffers.{IsInstance, buffer}
use Rattle.dsa_terms.specs.Claims.{IsIn}
use Rattle.dsa_terms.specs.Layouts.{IsLayout}
use Rattle.dsa_terms.proofs.Examples.{two_of_four}
use Rattle.dsa_terms.proofs.ExamplePlanFacts.{two_of_four_plan_at_7}
use Rattle.dsa_start_laws.proofs.Planned.{planned_is_layout}
use Rattle.first_fit.specs.Rules.{IsOrderOf}
use Rattle.portfolio.specs.Elsewhere.{IfNoneFound, IsCarriedBack, left_after}
use Rattle.portfolio.specs.Trials.{at_start, IsOtherOrder}
use Rattle.portfolio.specs.declared.elsewhere.Elsewhere.TheVariants.{Layout, Refuted, Spent}

two_sound : IsInstance two_of_four
two_sound zero d lt = (lit≤ tt, lit≤ tt, lit< tt)
two_sound (suc zero) d lt = (lit≤ tt, lit≤ tt, lit< tt)
two_sound (suc (suc k)) d lt = absurd (omega arith)

-- ---- nothing was tried
its_own_subject : (at_start two_of_four).subject ≡ two_of_four
its_own_subject = refl

nothing_used : (at_start two_of_four).units ≡ 0
nothing_used = refl

-- ---- the second buffer first
in_both : IsOrderOf two_of_four (1 ∷ 0 ∷ [])
in_both = record { count = refl; in_range = in_range; each = each }
  where
    in_range : (k d : ℕ) → k < 2 → slice_index_or (1 ∷ 0 ∷ []) k d < 2
    in_range zero d lt = lit< tt
    in_range (suc zero) d lt = lit< tt
    in_range (suc (suc k)) d lt = absurd (omega arith)

    each : (b : ℕ) → b < 2 → IsIn b (1 ∷ 0 ∷ [])
    each zero lt = inr (inl refl)
    each (suc zero) lt = inl refl
    each (suc (suc b)) lt = absurd (omega arith)

module _ (v : Vec ℕ) where
  second_first : v.items ≡ 1 ∷ 0 ∷ [] → IsOtherOrder two_of_four v
  second_first e = rw e in_both

  one_is_left_out : v.items ≡ 1 ∷ [] → IsOtherOrder two_of_four v → ⊥
  one_is_left_out e h = let k : length v.items ≡ 2 = h.count in let q : length {A = ℕ} (1 ∷ []) ≡ 2 = rw e at k in
      omega (arith, q)

  -- ---- what is found in another order
  laid_at_7 : v.items ≡ 0 ∷ 4 ∷ [] → IsCarriedBack two_of_four 7 (Layout v)
  laid_at_7 e = rw e (planned_is_layout two_of_four 7 (0 ∷ 4 ∷ []) two_sound two_of_four_plan_at_7)

  not_at_6 : v.items ≡ 0 ∷ 4 ∷ [] → IsCarriedBack two_of_four 6 (Layout v) → ⊥
  unfolding buffer
  not_at_6 e h =
      let l : IsLayout two_of_four 6 (0 ∷ 4 ∷ []) = rw e at h in
      let k : 4 + 3 ≤ 6 = l.within 1 (lit< tt) in
      omega arith

  nothing_of_a_refutation : IsCarriedBack two_of_four 7 Refuted
  nothing_of_a_refutation = tt

  nothing_where_spent : IsCarriedBack two_of_four 7 Spent
  nothing_where_spent = tt

-- ---- the units of twenty that are left for the instance's own order, where two others have used their shares
seven_of_twenty : left_after 2 20 ≡ 7
unfolding left_after
seven_of_twenty = refl

one_of_one : left_after 2 1 ≡ 1
unfolding left_after
one_of_one = refl

all_without_others : left_after 0 20 ≡ 20
unfolding left_after
all_without_others = refl

where_none_is_found : IfNoneFound Spent (left_after 2 20 ≡ 7)
unfolding left_after
where_none_is_found = refl
