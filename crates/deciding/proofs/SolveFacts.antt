-- What `solve` concludes of two buffers whose best start ends at 5, and whose lower bound and least capacity are 4.
use Rattle.std.proofs.Common.{◌≡◌, ℕ, List, length, map, [], ◌∷◌, Option, Some, None, refl, sym, ap, subst, lit≤, arith}
use Rattle.dsa_terms.specs.Bounds.{counted, highest_stack, lower_bound, moduli, moments, stack, stack_log, heights, highest_at}
use Rattle.dsa_terms.specs.Buffers.{buffer, is_live, floor}
use Rattle.dsa_terms.specs.Logs.{Log, is_stacked, rounded, rounding}
use Rattle.dsa_terms.proofs.ExamplePlanFacts.{small_below_plan_at_4}
use Rattle.dsa_terms.proofs.Examples.{evens, sample, small_below}
use Rattle.dsa_terms.specs.Claims.{up}
use Rattle.planner.specs.Openings.{AreGiven}
use Rattle.planner.proofs.ExampleLeastFacts.{below_best, below_bound, below_log, four_is_open}
use Rattle.planner.proofs.ShortageFacts.{four_of_four, short_of_four_steps}
use Rattle.planner.proofs.StepFacts.{laid_at_4, none_within_4, refuted_at_3}
use Rattle.command_words.specs.declared.role.Role.TheVariants as role
use Rattle.run_status.specs.declared.status.Status.{Status}
use Rattle.run_status.specs.declared.status.Status.TheVariants.{Feasible, Infeasible, Least, Open}
use Rattle.run_course.specs.Course.{Outcome, Write, writes}
use Rattle.writings.specs.Answers.{answer_files}
use Rattle.writings.proofs.ExampleFacts.{below_rows, log_alone, low_alone, low_file, names, start_and_log, start_file, three_file, three_log, three_reads, to_log, to_output}
use Rattle.deciding.specs.Deciding.{IsPlanWithin, IsProofWithin, IsSolved, IsUndecided, Solves}

-- ---- a layout that no start gives takes a step
within_4 : IsPlanWithin small_below 4 (Some 1) (1 ∷ 0 ∷ [])
within_4 = record { planned = small_below_plan_at_4; layout = laid_at_4; searched = λ none. lit≤ tt }

laid_out : Solves 4 (Some 1) names below_rows small_below (writes (to_output low_file ∷ []) (Feasible 4))
laid_out = record {
  status = Feasible 4;
  layout = Some (1 ∷ 0 ∷ []);
  log = None;
  answer = (refl, within_4);
  readable = tt;
  written = ap (λ (ws : List Write). writes ws (Feasible 4)) (sym low_alone);
}

not_laid_out_without_steps : (offsets : List ℕ) → IsPlanWithin small_below 4 (Some 0) offsets → ⊥
not_laid_out_without_steps offsets h =
    let given : AreGiven (Some 0) 1 = h.searched none_within_4 in omega (arith, given)

-- ---- the bound's log takes none
proof_at_3 : IsProofWithin small_below 3 (Some 0) three_log
proof_at_3 = record {
  refuted = refuted_at_3;
  by_bound = λ below. below_log;
  searched = λ le. (let e = below_bound in absurd (omega (arith, le, e)));
}

refuted : Solves 3 (Some 0) names below_rows small_below (writes (to_log three_file ∷ []) (Infeasible 3))
refuted = record {
  status = Infeasible 3;
  layout = None;
  log = Some three_log;
  answer = (refl, proof_at_3);
  readable = three_reads;
  written = ap (λ (ws : List Write). writes ws (Infeasible 3)) (sym log_alone);
}

-- it is a log at 3
not_refuted_at_2 : IsProofWithin small_below 2 None three_log → ⊥
unfolding stack_log
not_refuted_at_2 h = let e = h.refuted.its_capacity in omega (arith, e)

roles_differ : role.Output ∷ [] ≡ role.Log ∷ [] → ⊥
roles_differ e = absurd cc

-- the log goes to its own file
to_its_own : (layout : Option (List ℕ)) (log : Option Log) → IsSolved small_below 3 None (Infeasible 3) layout log →
    to_output three_file ∷ [] ≡ answer_files names below_rows layout log → ⊥
to_its_own None None a w = a
to_its_own None (Some log) a w = roles_differ (ap (map (λ (w : Write). w.role)) w)
to_its_own (Some offsets) log a w = a

not_to_the_output :
    Solves 3 None names below_rows small_below (writes (to_output three_file ∷ []) (Infeasible 3)) → ⊥
not_to_the_output h =
    let same = sym (ap (λ (o : Outcome). o.status) h.written) in
    to_its_own h.layout h.log (subst (λ (s : Status). IsSolved small_below 3 None s h.layout h.log) same h.answer)
    (ap (λ (o : Outcome). o.writes) h.written)

-- four steps are too few for a log of five lines
evens_bound : lower_bound evens ≡ 4
unfolding lower_bound highest_stack highest_at heights moduli moments stack counted is_stacked rounded rounding up
    floor is_live buffer
evens_bound = refl

not_refuted_with_four_steps : IsProofWithin evens 4 (Some 4) sample → ⊥
not_refuted_with_four_steps h =
    let bound = evens_bound in
    let lines : length sample.lines ≡ 5 = refl in
    let given : AreGiven (Some 4) (length sample.lines) = h.searched (omega (arith, bound)) in
    omega (arith, lines, given)

-- ---- the search at 4 takes four steps: with three it stays open
abbrev opened : Outcome
opened = writes (to_output start_file ∷ to_log three_file ∷ []) (Open 4 5)

undecided : IsUndecided small_below 4 (Some 3) 4 5 (0 ∷ 4 ∷ []) three_log
undecided = record {
  number = 3;
  given = refl;
  short = short_of_four_steps 3 (lit≤ tt);
  best = sym below_best;
  stays_open = four_is_open;
  by_bound = below_log;
}

left_open : Solves 4 (Some 3) names below_rows small_below opened
left_open = record {
  status = Open 4 5;
  layout = Some (0 ∷ 4 ∷ []);
  log = Some three_log;
  answer = undecided;
  readable = three_reads;
  written = ap (λ (ws : List Write). writes ws (Open 4 5)) (sym start_and_log);
}

not_open_with_four_steps : (low high : ℕ) (offsets : List ℕ) (log : Log) →
    IsUndecided small_below 4 (Some 4) low high offsets log → ⊥
not_open_with_four_steps low high offsets log h =
    let k : 4 ≡ h.number = (let e = h.given in cc) in
    four_of_four low high (rw (sym k) at h.short)

not_open_without_a_number : (low high : ℕ) (offsets : List ℕ) (log : Log) →
    IsUndecided small_below 4 None low high offsets log → ⊥
not_open_without_a_number low high offsets log h = let e = h.given in absurd cc

-- no other status is an answer
not_as_least : IsSolved small_below 4 None (Least 4) (Some (1 ∷ 0 ∷ [])) None → ⊥
not_as_least h = h
