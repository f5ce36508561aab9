-- What `least` concludes of two buffers whose best start ends at 5, and whose lower bound and least capacity are 4, and
-- of no buffers.
use Rattle.std.proofs.Common.{◌≡◌, ◌+◌, ◌≤◌, ℕ, List, inl, inr, [], ◌∷◌, Option, Some, None, refl, sym, ap, lit≤, arith}
use Rattle.dsa_terms.specs.Fits.{best_fit, first_fit}
use Rattle.dsa_terms.specs.Layouts.{IsLayout}
use Rattle.dsa_terms.specs.Logs.{Log}
use Rattle.dsa_terms.specs.Orders.{orders}
use Rattle.dsa_terms.specs.Parts.{is_cut, part_of, parts, searched, is_leader, are_parted, are_uncut}
use Rattle.dsa_terms.specs.Plans.{layout_height, plan}
use Rattle.dsa_terms.specs.Starts.{best_start, lowest_place, planned, starts}
use Rattle.dsa_terms.proofs.ExamplePlanFacts.{small_below_plan_at_4}
use Rattle.dsa_terms.proofs.Examples.{small_below}
use Rattle.csv_instance.specs.Layout.{layout_text}
use Rattle.csv_instance.specs.Records.{Record}
use Rattle.planner.specs.LeastCapacity.{IsLayoutWithin}
use Rattle.planner.proofs.ExampleFacts.{facts_of_none}
use Rattle.planner.proofs.ExampleLeastFacts.{below_best, below_bound, below_log, four_is_open, other_without_steps}
use Rattle.planner.proofs.ShortageFacts.{four_of_the_hunt, not_above_the_best, short_of_the_hunt}
use Rattle.planner.proofs.StepFacts.{best_at_5, four_high, four_is_least, laid_at_4, refuted_at_3}
use Rattle.run_status.specs.declared.status.Status.TheVariants.{Feasible, Least, Open}
use Rattle.run_course.specs.Course.{Outcome, Write, writes}
use Rattle.writings.proofs.ExampleFacts.{below_rows, low_and_log, low_file, names, start_and_log, start_file, three_file, three_log, three_reads, to_log, to_output}
use Rattle.deciding.specs.Deciding.{Finds, IsFound, IsLeftOpen, IsSought}

-- ---- the least capacity, with the layout that one step gives and the bound's log
pub found_4 : (k : ℕ) → 1 ≤ k → IsFound small_below (Some k) 4 (1 ∷ 0 ∷ []) (Some three_log)
found_4 k some = record {
  is_least = four_is_least;
  zero_for_none = (λ e. absurd cc, λ e. absurd (omega arith));
  planned = small_below_plan_at_4;
  layout = laid_at_4;
  its_height = four_high;
  refuted = (lit≤ tt, refuted_at_3);
  within_steps = record {
    layout_steps = 1;
    log_steps = 0;
    layout = inr (lit≤ tt);
    log = inl (rw below_bound (lit≤ tt, record { refutation = refuted_at_3; by_bound = below_log }));
    given = some;
  };
}

abbrev found : Outcome
found = writes (to_output low_file ∷ to_log three_file ∷ []) (Least 4)

finds_4 : Finds (Some 1) names below_rows small_below found
finds_4 = record {
  status = Least 4;
  layout = Some (1 ∷ 0 ∷ []);
  log = Some three_log;
  answer = found_4 1 (lit≤ tt);
  readable = three_reads;
  written = ap (λ (ws : List Write). writes ws (Least 4)) (sym low_and_log);
}

-- without steps that layout does not come
not_without_steps : (C : ℕ) (log : Option Log) → IsFound small_below (Some 0) C (1 ∷ 0 ∷ []) log → ⊥
not_without_steps C log h = other_without_steps C log h.within_steps

-- no start is as low as the least capacity
not_found_without_steps : (offsets : List ℕ) (log : Option Log) → IsFound small_below (Some 0) 4 offsets log → ⊥
not_found_without_steps offsets log h = go h.within_steps.layout h.within_steps.given
  where
    go : {k : ℕ} → IsLayoutWithin small_below k offsets → k + h.within_steps.log_steps ≤ 0 → ⊥
    go (inl e) le =
        let a = ap (layout_height small_below) e in let b = best_at_5 in let k = h.its_height in omega (arith, a, b, k)
    go (inr some) le = omega (arith, some, le)

-- above 0 there is a log
not_without_a_log : (C : ℕ) (offsets : List ℕ) → IsFound small_below None C offsets None → ⊥
not_without_a_log C offsets h = let e : small_below ≡ [] = h.zero_for_none.1 h.refuted in absurd cc

-- ---- with up to three steps it stays open
pub left_open : (k : ℕ) → k ≤ 3 → IsLeftOpen small_below (Some k) 4 5 (0 ∷ 4 ∷ []) three_log
left_open k few = record {
  number = k;
  given = refl;
  short = short_of_the_hunt k few;
  stays_open = four_is_open;
  within_steps = record {
    layout_steps = 0;
    log_steps = 0;
    layout = inl (sym below_best);
    log = inl (rw below_bound (lit≤ tt, record { refutation = refuted_at_3; by_bound = below_log }));
    given = omega arith;
  };
}

abbrev opened : Outcome
opened = writes (to_output start_file ∷ to_log three_file ∷ []) (Open 4 5)

leaves_open : Finds (Some 3) names below_rows small_below opened
leaves_open = record {
  status = Open 4 5;
  layout = Some (0 ∷ 4 ∷ []);
  log = Some three_log;
  answer = left_open 3 (lit≤ tt);
  readable = three_reads;
  written = ap (λ (ws : List Write). writes ws (Open 4 5)) (sym start_and_log);
}

-- four are enough
not_open_with_four_steps : (low high : ℕ) (offsets : List ℕ) (log : Log) →
    IsLeftOpen small_below (Some 4) low high offsets log → ⊥
not_open_with_four_steps low high offsets log h =
    let k : 4 ≡ h.number = (let e = h.given in cc) in
    four_of_the_hunt low high (rw (sym k) at h.short)

-- the best start ends at 5
not_open_between_5_and_6 : (offsets : List ℕ) (log : Log) → IsLeftOpen small_below (Some 0) 5 6 offsets log → ⊥
not_open_between_5_and_6 offsets log h = not_above_the_best h.number 5 h.short

-- no other status is an answer
not_as_feasible : IsSought small_below None (Feasible 4) (Some (1 ∷ 0 ∷ [])) None → ⊥
not_as_feasible h = h

-- ---- no buffers need no bytes, and no log is written
none_planned : planned [] 0 ≡ Some []
unfolding planned plan layout_height starts orders first_fit best_fit searched parts part_of is_leader are_uncut
    are_parted is_cut
none_planned = refl

none_best : best_start [] ≡ []
unfolding best_start lowest_place layout_height starts orders first_fit best_fit
none_best = refl

none_laid : IsLayout [] 0 []
none_laid = record {
  count = refl;
  aligned = λ b lt. absurd (omega arith);
  above = λ b lt. absurd (omega arith);
  within = λ b lt. absurd (omega arith);
  apart = λ b c t lt. absurd (omega arith);
}

none_high : layout_height [] [] ≡ 0
unfolding layout_height
none_high = refl

pub found_0 : (k : ℕ) → IsFound [] (Some k) 0 [] None
found_0 k = record {
  is_least = (([], none_laid), inl refl);
  zero_for_none = (λ e. refl, λ e. refl);
  planned = none_planned;
  layout = none_laid;
  its_height = none_high;
  refuted = refl;
  within_steps = record {
    layout_steps = 0;
    log_steps = 0;
    layout = inl (sym none_best);
    log = inl (sym facts_of_none.bound);
    given = omega arith;
  };
}

finds_0 : (table : List Record) →
    Finds (Some 0) names table [] (writes (to_output (layout_text table []) ∷ []) (Least 0))
finds_0 table = record {
  status = Least 0;
  layout = Some [];
  log = None;
  answer = found_0 0;
  readable = tt;
  written = refl;
}
