-- What `pack` concludes of two buffers whose best start ends at 5, and whose lower bound and least capacity are 4.
use Rattle.std.proofs.Common.{◌≡◌, ◌<◌, ◌≤◌, ℕ, List, inl, [], ◌∷◌, Option, Some, None, refl, sym, ap, subst, lit<, lit≤, arith}
use Rattle.std.specs.Prelude.{IfSome}
use Rattle.dsa_terms.specs.Bounds.{stack_log}
use Rattle.dsa_terms.specs.Logs.{Log}
use Rattle.dsa_terms.proofs.Examples.{small_below}
use Rattle.planner.proofs.ExampleLeastFacts.{below_bound, below_log, four_is_open}
use Rattle.planner.proofs.StepFacts.{best_at_5, four_high, four_is_least, laid_at_4, refuted_at_3}
use Rattle.packer.specs.Packs.{RefutesWithin}
use Rattle.packer.proofs.Brief.{one_line}
use Rattle.run_status.specs.declared.status.Status.{Status}
use Rattle.run_status.specs.declared.status.Status.TheVariants.{Feasible, Infeasible, Least, Open, Right}
use Rattle.run_course.specs.Course.{Outcome, Write, says, writes}
use Rattle.writings.specs.Answers.{answer_files}
use Rattle.writings.proofs.ExampleFacts.{below_rows, log_alone, low_and_log, low_file, names, start_alone, start_and_log, start_file, three_file, three_log, three_reads, to_log, to_output}
use Rattle.packing.specs.Packing.{IsPacked, IsPackedBetween, Packs}

-- ---- 3 is refuted by one line
within_3 : (steps : ℕ) → RefutesWithin small_below 3 steps three_log
unfolding stack_log
within_3 steps = record {
  accepted = refuted_at_3.accepted;
  its_capacity = refuted_at_3.its_capacity;
  infeasible = refuted_at_3.infeasible;
  trimmed = one_line small_below three_log refuted_at_3.accepted (lit≤ tt);
  few = inl below_log;
}

-- ---- the least capacity, with a layout of that height and the bound's log
abbrev found : Outcome
found = writes (to_output low_file ∷ to_log three_file ∷ []) (Least 4)

packs_4 : Packs None 8 names below_rows small_below found
packs_4 = record {
  status = Least 4;
  layout = Some (1 ∷ 0 ∷ []);
  log = Some three_log;
  answer = (
    refl,
    record {
      is_least = four_is_least;
      zero_for_none = (λ e. absurd cc, λ e. absurd (omega arith));
      layout = laid_at_4;
      its_height = four_high;
      refuted = (lit≤ tt, within_3 8);
    },
  );
  readable = three_reads;
  written = ap (λ (ws : List Write). writes ws (Least 4)) (sym low_and_log);
}

-- where a capacity is given, it is that one which is decided
no_least_of_a_capacity : (offsets : List ℕ) (log : Option Log) →
    IsPacked small_below (Some 4) 8 (Least 4) (Some offsets) log → ⊥
no_least_of_a_capacity offsets log h = let none = h.0 in absurd cc

-- ---- without steps it stays open
abbrev opened : Outcome
opened = writes (to_output start_file ∷ to_log three_file ∷ []) (Open 4 5)

between_4_and_5 : (capacity : Option ℕ) → IfSome capacity (λ C. (4 ≤ C) × (C < 5)) →
    IsPackedBetween small_below capacity 0 4 5 (0 ∷ 4 ∷ []) three_log
between_4_and_5 capacity between = record {
  ends_apart = four_is_open.ends_apart;
  positive = four_is_open.positive;
  ends = record {
    from_bound = (let e = below_bound in omega arith);
    to_best = (let e = best_at_5 in omega arith);
    between = between;
  };
  layout = four_is_open.layout;
  its_height = four_is_open.its_height;
  refuted = within_3 0;
}

leaves_open : (capacity : Option ℕ) → IfSome capacity (λ C. (4 ≤ C) × (C < 5)) →
    Packs capacity 0 names below_rows small_below opened
leaves_open capacity between = record {
  status = Open 4 5;
  layout = Some (0 ∷ 4 ∷ []);
  log = Some three_log;
  answer = between_4_and_5 capacity between;
  readable = three_reads;
  written = ap (λ (ws : List Write). writes ws (Open 4 5)) (sym start_and_log);
}

open_without_a_capacity : Packs None 0 names below_rows small_below opened
open_without_a_capacity = leaves_open None tt

open_at_4 : Packs (Some 4) 0 names below_rows small_below opened
open_at_4 = leaves_open (Some 4) (lit≤ tt, lit< tt)

-- ---- a capacity
packs_at_5 : Packs (Some 5) 0 names below_rows small_below (writes (to_output start_file ∷ []) (Feasible 5))
packs_at_5 = record {
  status = Feasible 5;
  layout = Some (0 ∷ 4 ∷ []);
  log = None;
  answer = (refl, four_is_open.layout);
  readable = tt;
  written = ap (λ (ws : List Write). writes ws (Feasible 5)) (sym start_alone);
}

refutes_3 : Packs (Some 3) 0 names below_rows small_below (writes (to_log three_file ∷ []) (Infeasible 3))
refutes_3 = record {
  status = Infeasible 3;
  layout = None;
  log = Some three_log;
  answer = (refl, within_3 0);
  readable = three_reads;
  written = ap (λ (ws : List Write). writes ws (Infeasible 3)) (sym log_alone);
}

-- 4 is not refuted, nor is another capacity than the one that is given
not_refuted_at_4 : (log : Log) → IsPacked small_below (Some 4) 8 (Infeasible 4) None (Some log) → ⊥
not_refuted_at_4 log h = h.1.infeasible (1 ∷ 0 ∷ []) laid_at_4

not_refuted_at_3 : (log : Log) → IsPacked small_below (Some 4) 8 (Infeasible 3) None (Some log) → ⊥
not_refuted_at_3 log h = let e = h.0 in absurd cc

-- the layout has to be written
written_5 : (layout : Option (List ℕ)) (log : Option Log) → IsPacked small_below (Some 5) 0 (Feasible 5) layout log →
    [] ≡ answer_files names below_rows layout log → ⊥
written_5 None log a w = a
written_5 (Some offsets) None a w = absurd cc
written_5 (Some offsets) (Some log) a w = a

not_without_a_write : Packs (Some 5) 0 names below_rows small_below (says (Feasible 5)) → ⊥
not_without_a_write h =
    let same = sym (ap (λ (o : Outcome). o.status) h.written) in
    written_5 h.layout h.log (subst (λ (s : Status). IsPacked small_below (Some 5) 0 s h.layout h.log) same h.answer)
    (ap (λ (o : Outcome). o.writes) h.written)

-- no other status is an answer
not_right : IsPacked small_below None 8 Right None None → ⊥
not_right h = h
