-- What `classes` concludes of one buffer of one byte, and of two whose alignment is 4.
use Rattle.std.proofs.Common.{◌≡◌, ℕ, zero, suc, ◌+◌, ◌≤◌, ◌<◌, slice_index, List, [], ◌∷◌, Some, codes, refl, sym, subst, ap, ap₂, inl, inr, lit<, lit≤, arith}
use Rattle.dsa_terms.specs.Bounds.{moments}
use Rattle.dsa_terms.specs.Buffers.{Instance, buffer, is_live}
use Rattle.dsa_terms.specs.Layouts.{IsInfeasible, IsLayout, IsLeast, IsMultiple}
use Rattle.dsa_terms.specs.Orders.{rises_by}
use Rattle.dsa_terms.specs.Parts.{has}
use Rattle.dsa_terms.specs.Plans.{IsPeak, load}
use Rattle.dsa_terms.proofs.Examples.{plain, two_of_four}
use Rattle.dsa_model.proofs.Live.{not_live_after}
use Rattle.csv_instance.specs.Records.{Record}
use Rattle.size_classes.specs.Classes.{class_of, in_class, last_class, widest}
use Rattle.size_classes.specs.Plain.{IsPlain, first_rough}
use Rattle.size_classes.specs.Plans.{IsPeakLoad, class_height, class_offset, class_plan, offset_in, power_height}
use Rattle.size_classes.specs.Slots.{held, least_free, live_among, most_live, slot_of}
use Rattle.run_status.specs.declared.status.Status.TheVariants.{Classed, NotPlain}
use Rattle.run_course.specs.Course.{Outcome, says, writes}
use Rattle.writings.specs.Writings.{layout_file}
use Rattle.planning.specs.Planning.{IsPlanned, Plans, PlansByClass, RefusesRough}

-- ---- two of alignment 4
first_is_rough : RefusesRough two_of_four (says (NotPlain 0))
unfolding first_rough
first_is_rough = (0, refl, refl)

told_as : (b : ℕ) → RefusesRough two_of_four (says (NotPlain b)) → Some 0 ≡ Some b
unfolding first_rough
told_as b h =
    let same : NotPlain b ≡ NotPlain h.0 = ap (λ (o : Outcome). o.status) h.2 in
    let first : Some 0 ≡ Some h.0 = h.1 in
    cc

-- the second is not the first
second_is_not_told : RefusesRough two_of_four (says (NotPlain 1)) → ⊥
second_is_not_told h = let e = told_as 1 h in cc

-- there is no plan for them
rough_is_not_planned : (most : ℕ) → IsPlanned two_of_four most → ⊥
unfolding buffer
rough_is_not_planned most h = let le : 4 ≤ 1 = (h.plain 0 (lit< tt)).1 in omega (arith, le)

-- ---- one buffer of one byte
abbrev pub one : Instance
one = plain 0 1 1 1 ∷ []

abbrev pub rows : List Record
rows =
    (codes "id" ∷ codes "lower" ∷ codes "upper" ∷ codes "size" ∷ [])
    ∷ (codes "A" ∷ codes "0" ∷ codes "1" ∷ codes "1" ∷ []) ∷ []

pub one_plain : IsPlain one
unfolding buffer
one_plain zero lt = (refl, lit≤ tt, refl)
one_plain (suc b) lt = absurd (omega arith)

one_is_not_rough : (o : Outcome) → RefusesRough one o → ⊥
unfolding first_rough
one_is_not_rough o h = let is = h.1 in absurd cc

pub one_laid : IsLayout one 1 (0 ∷ [])
unfolding buffer
one_laid = record {
  count = refl;
  aligned = aligned;
  above = above;
  within = within;
  apart = λ b c t lb lc differ live also. absurd (differ (omega arith));
}
  where
    above : (b : ℕ) → b < 1 → (buffer one b).lowest ≤ slice_index (0 ∷ []) b
    above zero lt = lit≤ tt
    above (suc b) lt = absurd (omega arith)

    aligned : (b : ℕ) → b < 1 → IsMultiple (slice_index (0 ∷ []) b) (buffer one b).alignment
    aligned zero lt = refl
    aligned (suc b) lt = absurd (omega arith)

    within : (b : ℕ) → b < 1 → slice_index (0 ∷ []) b + (buffer one b).size ≤ 1
    within zero lt = lit≤ tt
    within (suc b) lt = absurd (omega arith)

pub nothing_at_0 : IsInfeasible one 0
unfolding buffer
nothing_at_0 offsets l = let k = l.within 0 (lit< tt) in omega arith

later_load : (s : ℕ) → load one (suc s) ≡ 0
unfolding load
later_load s = rw (not_live_after (plain 0 1 1 1) (suc s) (omega arith)) refl

first_load : load one 0 ≡ 1
unfolding load is_live
first_load = refl

at_most_one : (t : ℕ) → load one t ≤ 1
at_most_one zero = let e = first_load in omega (arith, e)
at_most_one (suc t) = let e = later_load t in omega (arith, e)

pub one_at_the_peak : IsPeakLoad one 1
one_at_the_peak = record { none = λ e. absurd cc; some = some }
  where
    some : (t : ℕ) → IsPeak one t → 1 ≡ load one t
    some t peak =
        let least = peak.most 0 in
        let first = first_load in
        let most = at_most_one t in
        omega (arith, least, first, most)

-- ---- its plan
pub one_plan : class_plan one ≡ 0 ∷ []
unfolding class_plan class_offset offset_in class_of widest in_class most_live live_among moments slot_of held
    least_free rises_by has is_live buffer
one_plan = refl

pub one_high : class_height one ≡ 1
unfolding class_height last_class class_of widest in_class most_live live_among moments is_live buffer
one_high = refl

pub one_powers : power_height one ≡ 1
unfolding power_height last_class class_of in_class most_live live_among moments is_live buffer
one_powers = refl

abbrev written : Outcome
written = writes (layout_file (codes "o") rows (0 ∷ []) ∷ []) (Classed 1 1)

pub one_planned : IsPlanned one 1
one_planned = record {
  plain = one_plain;
  peak = one_at_the_peak;
  layout = subst (IsLayout one (class_height one)) (sym one_plan)
      (subst (λ h. IsLayout one h (0 ∷ [])) (sym one_high) one_laid);
  powers = (let a = one_high in let b = one_powers in omega (arith, a, b));
  least = λ size all. subst (λ h. IsLeast one h × (h ≡ 1)) (sym one_high)
      (((0 ∷ [], one_laid), inr nothing_at_0), refl);
}

pub plans_one : PlansByClass (codes "o") rows one written
plans_one = (
  1,
  one_planned,
  ap₂ (λ (plan : List ℕ) (high : ℕ). writes (layout_file (codes "o") rows plan ∷ []) (Classed high 1))
      (sym one_plan) (sym one_high),
)

plan_is_concluded : Plans (codes "o") rows one written
plan_is_concluded = inl plans_one

-- the load is told after the height, and both are the plan's own
not_at_2 : PlansByClass (codes "o") rows one (writes (layout_file (codes "o") rows (0 ∷ []) ∷ []) (Classed 2 1)) → ⊥
not_at_2 h =
    let same : Classed 2 1 ≡ Classed (class_height one) h.0 = ap (λ (o : Outcome). o.status) h.2 in
    let high = one_high in
    let two : 2 ≡ class_height one = cc in
    omega (arith, two, high)

-- nothing is concluded without the write
not_unwritten : PlansByClass (codes "o") rows one (says (Classed 1 1)) → ⊥
not_unwritten h = let e = ap (λ (o : Outcome). o.writes) h.2 in absurd cc
