-- Worked cases: the sample log is trimmed and takes five steps, five buffers are packed at once, and two stay open.
use Rattle.std.proofs.Common.{◌≡◌, ◌+◌, ◌<◌, ℕ, zero, suc, inl, inr, [], ◌∷◌, slice_get, Some, None, refl, sym, ap, ◌∙◌, subst, lit<, lit≤, arith}
use Rattle.dsa_terms.specs.Bounds.{bound_modulus, counted, heights, highest_at, highest_stack, least_of, lower_bound, moduli, moments, stack, stack_log}
use Rattle.dsa_terms.specs.Buffers.{IsInstance, buffer, floor, is_live}
use Rattle.dsa_terms.specs.Claims.{IsIn, up}
use Rattle.dsa_terms.specs.Layouts.{IsLayout, IsLeast}
use Rattle.dsa_terms.specs.Logs.{IsAccepted, Line, Log, is_stacked, rounded, rounding}
use Rattle.dsa_terms.specs.Plans.{layout_height}
use Rattle.dsa_terms.specs.Trims.{Cites, IsCited}
use Rattle.dsa_terms.proofs.Examples.{case_12, case_all, evens, five, over_1, over_2, sample, small_below}
use Rattle.dsa_terms.proofs.ExamplePlanFacts.{five_plan_at_11, five_plan_at_12}
use Rattle.dsa_search_laws.proofs.Logs.{accepted_is_infeasible}
use Rattle.dsa_start_laws.proofs.Planned.{planned_is_layout, planned_none}
use Rattle.dsa_start_laws.proofs.Stacks.{zero_height}
use Rattle.min_capacity.specs.declared.brackets.Bracket.{Bracket}
use Rattle.min_capacity.specs.declared.brackets.Least.TheVariants as found
use Rattle.planner.specs.Decides.{IsBoundLog}
use Rattle.planner.specs.declared.decision.Decision.TheVariants as decision
use Rattle.planner.proofs.ExampleFacts.{five_moment}
use Rattle.planner.proofs.ExampleLeastFacts.{below_bound, below_log, four_is_open, line_refutes}
use Rattle.planner.proofs.StepFacts.{best_at_5}
use Rattle.packer.specs.Packs.{AreUsedUp, IfLeftOpen, IsPackedOpen, IsTrimmed, Packs, PacksWithin, placing_pairs, placing_steps, placings, RefutesOneLess, RefutesWithin}
use Rattle.packer.specs.Reached.{IsLogWithin, IsReached}
use Rattle.packer.specs.Starts.{IsOpenFrom}
use Rattle.packer.proofs.Brief.{bound_line, one_line}

-- ---- logs without needless lines
sample_is_cited : (k : ℕ) → k + 1 < 5 → IsCited sample.lines k
sample_is_cited zero lt = record { number = 2; line = case_12; later = lit< tt; there = refl; cites = inl refl }
sample_is_cited (suc zero) lt =
    record { number = 2; line = case_12; later = lit< tt; there = refl; cites = inr (inl refl) }
sample_is_cited (suc (suc zero)) lt =
    record { number = 4; line = case_all; later = lit< tt; there = refl; cites = inl refl }
sample_is_cited (suc (suc (suc zero))) lt =
    record { number = 4; line = case_all; later = lit< tt; there = refl; cites = inr (inr (inl refl)) }
sample_is_cited (suc (suc (suc (suc k)))) lt = absurd (omega arith)

pub sample_is_trimmed : IsTrimmed sample
sample_is_trimmed = record { last = refl; cited = sample_is_cited }

-- no line cites the first
abbrev with_needless : Log
with_needless = record { count = 3; capacity = 4; lines = over_2 ∷ over_1 ∷ []; final = 1 }

with_needless_is_not : IsTrimmed with_needless → ⊥
with_needless_is_not h = go (h.cited 0 (lit< tt))
  where
    at : (n : ℕ) (line : Line) → 0 < n → slice_get with_needless.lines n ≡ Some line → Cites line 0 → ⊥
    at zero line lt e i = omega (arith, lt)
    at (suc zero) line lt e i = let q : over_1 ≡ line = cc in subst (λ (l : Line). Cites l 0) (sym q) i
    at (suc (suc n)) line lt e i = absurd cc

    go : IsCited with_needless.lines 0 → ⊥
    go c = at c.number c.line c.later c.there c.cites

-- ---- a log that takes five steps
evens_sound : IsInstance evens
evens_sound zero d lt = (lit≤ tt, lit≤ tt, lit< tt)
evens_sound (suc zero) d lt = (lit≤ tt, lit≤ tt, lit< tt)
evens_sound (suc (suc zero)) d lt = (lit≤ tt, lit≤ tt, lit< tt)
evens_sound (suc (suc (suc k))) d lt = absurd (omega arith)

pub five_steps : IsAccepted evens sample → RefutesWithin evens 4 5 sample
five_steps a = record {
  accepted = a;
  its_capacity = refl;
  infeasible = accepted_is_infeasible evens sample evens_sound a;
  trimmed = sample_is_trimmed;
  few = inr (lit≤ tt);
}

four_are_too_few : RefutesWithin evens 4 4 sample → ⊥
four_are_too_few h = elim h.few [
  | inl b ↦ (let e = bound_line evens 4 sample b in omega (arith, e))
  | inr le ↦ omega (arith, le)
]

-- ---- five buffers whose lower bound is their least capacity: no steps are needed
pub five_sound : IsInstance five
five_sound zero d lt = (lit≤ tt, lit≤ tt, lit< tt)
five_sound (suc zero) d lt = (lit≤ tt, lit≤ tt, lit< tt)
five_sound (suc (suc zero)) d lt = (lit≤ tt, lit≤ tt, lit< tt)
five_sound (suc (suc (suc zero))) d lt = (lit≤ tt, lit≤ tt, lit< tt)
five_sound (suc (suc (suc (suc zero)))) d lt = (lit≤ tt, lit≤ tt, lit< tt)
five_sound (suc (suc (suc (suc (suc k))))) d lt = absurd (omega arith)

twelve_stacked : stack five 0 0 1 ≡ 12
unfolding stack counted is_stacked rounded rounding up floor is_live buffer
twelve_stacked = refl

five_bound : lower_bound five ≡ 12
unfolding lower_bound highest_stack highest_at heights moduli moments stack counted is_stacked rounded rounding up
    floor is_live buffer
five_bound = refl

five_modulus : bound_modulus five ≡ 1
unfolding bound_modulus least_of lower_bound highest_stack highest_at heights moduli moments stack counted
    is_stacked rounded rounding up floor is_live buffer
five_modulus = refl

abbrev pub five_log : Log
five_log = stack_log five 0 0 1 11

pub five_by_bound : IsBoundLog five 11 five_log
five_by_bound = record {
  moment = 0;
  height = 0;
  its_moment = five_moment;
  from = zero_height five (bound_modulus five);
  least = λ H i e. omega arith;
  reached = rw five_modulus (twelve_stacked ∙ sym five_bound);
  one_line = rw five_modulus refl;
}

pub five_at_11 : (steps : ℕ) → RefutesWithin five 11 steps five_log
five_at_11 steps =
    let r = line_refutes five 0 0 1 11 five_sound (lit≤ tt) refl (let e = twelve_stacked in omega arith) in
    let one = bound_line five 11 five_log five_by_bound in
    record {
      accepted = r.accepted;
      its_capacity = r.its_capacity;
      infeasible = r.infeasible;
      trimmed = one_line five five_log r.accepted (omega arith);
      few = inl five_by_bound;
    }

packed_at_11 : PacksWithin five 11 0 (decision.Refuted five_log)
packed_at_11 = five_at_11 0

pub five_laid : IsLayout five 12 (0 ∷ 0 ∷ 4 ∷ 0 ∷ 8 ∷ [])
five_laid = planned_is_layout five 12 (0 ∷ 0 ∷ 4 ∷ 0 ∷ 8 ∷ []) five_sound five_plan_at_12

pub five_high : layout_height five (0 ∷ 0 ∷ 4 ∷ 0 ∷ 8 ∷ []) ≡ 12
unfolding layout_height buffer
five_high = refl

pub five_least : IsLeast five 12
five_least = ((0 ∷ 0 ∷ 4 ∷ 0 ∷ 8 ∷ [], five_laid), inr (planned_none five 11 five_sound five_plan_at_11))

five_packed : (b : Bracket) → b.low ≡ 12 → b.high ≡ 12 → b.layout.items ≡ 0 ∷ 0 ∷ 4 ∷ 0 ∷ 8 ∷ [] →
    b.log ≡ Some five_log → Packs five 0 (found.Exact b)
five_packed b low high layout log = record {
  between = record {
    layout = rw (high, layout) five_laid;
    its_height = ap (layout_height five) layout ∙ five_high ∙ sym high;
    refuted_below = rw (low, log) (lit≤ tt, five_at_11 0);
  };
  ends_met = low ∙ sym high;
  least = rw high five_least;
  zero_for_none = (λ e. absurd cc, λ e. absurd (omega arith));
}

-- no buffers need no log, and some buffers one
no_log_for_none : RefutesOneLess [] 0 0 None
no_log_for_none = refl

no_log_at_12 : RefutesOneLess five 12 0 None → ⊥
no_log_at_12 e = omega (arith, e)

-- ---- two buffers that are open from 4 to 5 without steps
abbrev below_4 : Log
below_4 = stack_log small_below 0 0 1 3

four_to_five : (b : Bracket) → b.low ≡ 4 → b.high ≡ 5 → b.layout.items ≡ 0 ∷ 4 ∷ [] → b.log ≡ Some below_4 →
    IsOpenFrom small_below b
unfolding stack_log
four_to_five b low high layout log = record {
  bracket = record {
    ordered = omega arith;
    limit = omega arith;
    layout = rw (high, layout) four_is_open.layout;
    height = ap (layout_height small_below) layout ∙ four_is_open.its_height ∙ sym high;
    log = rw (low, log) (four_is_open.refuted_below.accepted, refl);
  };
  positive = omega arith;
  at_bound = low ∙ sym below_bound;
  bound_log = below_4;
  its_log = log;
  by_bound = rw low below_log;
  to_best = (let e = best_at_5 in omega arith);
  limit = omega arith;
}

reached_without_steps : (b : Bracket) → b.low ≡ 4 → b.high ≡ 5 → b.layout.items ≡ 0 ∷ 4 ∷ [] →
    b.log ≡ Some below_4 → IsReached small_below 0 b
reached_without_steps b low high layout log =
    let start = four_to_five b low high layout log in
    record {
      bracket = start.bracket;
      positive = start.positive;
      from_bound = (let e = below_bound in omega arith);
      to_best = start.to_best;
      log = rw (low, log) (inl below_log);
    }

no_log_is_within : IsLogWithin small_below 0 4 None
no_log_is_within = tt

-- a log that is not the bound's takes a step for each line
five_lines_within_four : IsLogWithin evens 4 5 (Some sample) → ⊥
five_lines_within_four (inl b) = let e = bound_line evens 4 sample b in omega (arith, e)
five_lines_within_four (inr le) = omega (arith, le)

left_open : (b : Bracket) → b.low ≡ 4 → b.high ≡ 5 → b.layout.items ≡ 0 ∷ 4 ∷ [] → b.log ≡ Some below_4 →
    Packs small_below 0 (found.Open b)
left_open b low high layout log =
    let start = four_to_five b low high layout log in
    let refuted = four_is_open.refuted_below in
    let one = bound_line small_below 3 below_4 below_log in
    let within : RefutesWithin small_below 3 0 below_4 = record {
      accepted = refuted.accepted;
      its_capacity = refuted.its_capacity;
      infeasible = refuted.infeasible;
      trimmed = one_line small_below below_4 refuted.accepted (omega arith);
      few = inl below_log;
    } in
    record {
      between = record {
        layout = start.bracket.layout;
        its_height = start.bracket.height;
        refuted_below = rw (low, log) (lit≤ tt, within);
      };
      ends_apart = omega arith;
      positive = start.positive;
      from_bound = (let e = below_bound in omega arith);
      to_best = start.to_best;
    }

-- a layout that is higher than the best start is not kept
not_above_the_best : (b : Bracket) → b.high ≡ 6 → IsPackedOpen small_below 0 b → ⊥
not_above_the_best b high h = let e = best_at_5 in let le = h.to_best in omega (arith, e, le, high)

-- ---- of twelve steps, ten are for searches
two_of_twelve : placing_steps 12 ≡ 2
two_of_twelve = refl

few_of_many : placing_steps 1000000 ≡ 65536
few_of_many = refl

eight_a_step_for_none : placings 0 48 ≡ 64
eight_a_step_for_none = refl

one_a_step_for_338 : placings 338 60000 ≡ 10033
one_a_step_for_338 = refl

few_for_4096 : placings 4096 60000 ≡ 78
few_for_4096 = refl

pairs_for_512 : placing_pairs 512 ≡ 278528
pairs_for_512 = refl

ten_of_twelve : AreUsedUp 12 3 13
ten_of_twelve = refl

not_nine_of_twelve : AreUsedUp 12 3 12 → ⊥
not_nine_of_twelve e = omega (arith, e)

where_open : (b : Bracket) → IfLeftOpen (decision.Open b) (AreUsedUp 6 0 5)
where_open b = refl
