-- Worked edges of one buffer, and what they give of the sections.
use Rattle.std.proofs.Common.{◌≡◌, ◌≢◌, ℕ, zero, suc, ◌<◌, ◌≤◌, true, false, inl, inr, List, [], ◌∷◌, slice_index_or, refl, sym, ap, subst, lit<, lit≤, arith}
use Rattle.std.proofs.lemmas.Bool.Decides.{nat_tests}
use Rattle.std.proofs.lemmas.List.Elements.{All-cons, All-nil}
use Rattle.dsa_terms.specs.Buffers.{Buffer, Instance, buffer, is_live}
use Rattle.dsa_terms.specs.Claims.{IsIn}
use Rattle.dsa_terms.specs.Parts.{has}
use Rattle.dsa_model.specs.Lists.{pair_at}
use Rattle.lifetime.specs.Edges.{AreEdges, AreRunsBefore, AreThinnedBefore, IsAfter, IsPassed, edge_moments}
use Rattle.lifetime.specs.Runs.{ArePlainRuns, BeginsRun, live_before, starts_of, was_live}
use Rattle.lifetime.specs.SectionList.{Section, live_at, section_with}
use Rattle.lifetime.specs.Stretches.{IsStretch}
use Rattle.lifetime.specs.Switching.{IsSwitched}
use Rattle.lifetime.specs.Thin.{AreAmong, AreThinRuns, IsThinnedTo, StandsIn}

-- one buffer, live at the moments 0 and 1
abbrev pub only : Buffer
only = record { lower = 0; upper = 2; size = 1; alignment = 1; gaps = []; lowest = 0 }

abbrev pub one : Instance
one = only ∷ []

pub not_later : (t : ℕ) → is_live only (suc (suc t)) ≡ false
unfolding is_live
not_later t = grind (arith, nat_tests)

abbrev edges : List (ℕ × ℕ)
edges = (0, 0) ∷ (2, 0) ∷ []

abbrev run : Section
run = section_with 0 (0 ∷ [])

-- ---- edges
both_edges : AreEdges one edges
unfolding buffer
both_edges = record {
  sorted = sorted;
  in_range = All-cons (λ (e : ℕ × ℕ). e.1 < 1) (0, 0) ((2, 0) ∷ []) (lit< tt)
      (All-cons (λ (e : ℕ × ℕ). e.1 < 1) (2, 0) [] (lit< tt) (All-nil (λ (e : ℕ × ℕ). e.1 < 1)));
  complete = complete;
  limit = lit≤ tt;
}
  where
    sorted : (i j : ℕ) (d : ℕ × ℕ) → i ≤ j → j < 2 → (slice_index_or edges i d).0 ≤ (slice_index_or edges j d).0
    sorted zero zero d le lt = lit≤ tt
    sorted zero (suc zero) d le lt = lit≤ tt
    sorted (suc zero) (suc zero) d le lt = lit≤ tt
    sorted i (suc (suc j)) d le lt = absurd (omega arith)
    sorted (suc i) zero d le lt = absurd (omega arith)
    sorted (suc (suc i)) (suc zero) d le lt = absurd (omega arith)

    complete : (b t : ℕ) → b < 1 → IsIn t (edge_moments (buffer one b)) → IsIn (t, b) edges
    complete zero t lt (inl e) = inl (ap (λ t. (t, 0)) e)
    complete zero t lt (inr (inl e)) = inr (inl (ap (λ t. (t, 0)) e))
    complete zero t lt (inr (inr i)) = absurd i
    complete (suc b) t lt i = absurd (omega arith)

-- the end is missing
without_end : AreEdges one ((0, 0) ∷ []) → ⊥
unfolding buffer
without_end h = elim (h.complete 0 2 (lit< tt) (inr (inl refl))) [
  | inl e ↦ (let k = ap (λ (e : ℕ × ℕ). e.0) e in omega arith)
  | inr i ↦ i
]

-- ---- edges that are passed
after_first : IsAfter edges 1 0
after_first = record { within = lit≤ tt; passed = passed; later = later }
  where
    passed : (k : ℕ) → k < 1 → (pair_at edges k).0 ≤ 0
    passed zero lt = lit≤ tt
    passed (suc k) lt = absurd (omega arith)

    later : (k : ℕ) → 1 ≤ k → k < 2 → 0 < (pair_at edges k).0
    later zero le lt = absurd (omega arith)
    later (suc zero) le lt = lit< tt
    later (suc (suc k)) le lt = absurd (omega arith)

-- the second edge is not later than its own moment
not_after_second : IsAfter edges 1 2 → ⊥
not_after_second h = let k = h.later 1 (lit≤ tt) (lit< tt) in omega arith

begins_at_0 : live_at one 0 ≢ live_before one 0
unfolding live_at live_before was_live buffer is_live
begins_at_0 e = absurd cc

first_passed : IsPassed one edges 0 1 true (0 ∷ [])
unfolding live_at buffer is_live
first_passed = record {
  after = after_first;
  later = lit< tt;
  are = refl;
  same = λ e. absurd cc;
  differs = λ e. begins_at_0;
}

-- that is a change
not_the_same : IsPassed one edges 0 1 false (0 ∷ []) → ⊥
not_the_same p = begins_at_0 (p.same refl)

-- ---- runs
its_member : (x : Section) → IsIn x (run ∷ []) → x.members ≡ live_at one x.start
unfolding live_at buffer is_live
its_member x (inl e) = subst (λ (x : Section). x.members ≡ live_at one x.start) (sym e) refl
its_member x (inr i) = absurd i

pub run_at_0 : BeginsRun one 0
unfolding live_at buffer is_live
run_at_0 = record { something = λ e. cc; changed = begins_at_0 }

nothing_later : (t : ℕ) → live_at one (suc (suc t)) ≡ []
unfolding live_at buffer
nothing_later t = rw (not_later t) refl

no_other_run : (t : ℕ) → BeginsRun one t → IsIn t (0 ∷ [])
unfolding live_at live_before was_live buffer is_live
no_other_run zero r = inl refl
no_other_run (suc zero) r = absurd (r.changed refl)
no_other_run (suc (suc t)) r = absurd (r.something (nothing_later t))

one_run : ArePlainRuns one (run ∷ [])
one_run = record { each = its_member; rise = ((λ y i. absurd i), tt); runs = λ t. (there t, no_other_run t) }
  where
    there : (t : ℕ) → IsIn t (0 ∷ []) → BeginsRun one t
    there t (inl e) = subst (BeginsRun one) (sym e) run_at_0
    there t (inr i) = absurd i

-- none begins at 1
not_two_runs : ArePlainRuns one (run ∷ section_with 1 (0 ∷ []) ∷ []) → ⊥
unfolding live_at live_before was_live buffer is_live
not_two_runs h = ((h.runs 1).0 (inr (inl refl))).changed refl

run_before_second : AreRunsBefore one edges 1 (run ∷ [])
run_before_second = record {
  each = its_member;
  rise = ((λ y i. absurd i), tt);
  runs = λ t. (there t, λ r. no_other_run t r.0);
}
  where
    there : (t : ℕ) → IsIn t (0 ∷ []) →
        BeginsRun one t × ((k : ℕ) → 1 ≤ k → k < 2 → t < (pair_at edges k).0)
    there t (inl e) = subst (λ t. BeginsRun one t × ((k : ℕ) → 1 ≤ k → k < 2 → t < (pair_at edges k).0)) (sym e)
        (run_at_0, after_first.later)
    there t (inr i) = absurd i

-- no run begins before the first edge
none_before_first : AreRunsBefore one edges 0 (run ∷ []) → ⊥
none_before_first h = let k = ((h.runs 0).0 (inl refl)).1 0 (lit≤ tt) (lit< tt) in omega arith

-- ---- what thinning leaves of the run
its_own : IsThinnedTo (run ∷ []) (run ∷ [])
its_own = record {
  chosen = λ x i. i;
  rise = ((λ y i. absurd i), tt);
  thin = record { before = λ s lt. absurd (omega arith); after = λ s lt. absurd (omega arith) };
  stand = stand;
}
  where
    has_all : (y : Section) → IsIn y (run ∷ []) → AreAmong y.members (0 ∷ [])
    has_all y (inl e) = subst (λ (y : Section). AreAmong y.members (0 ∷ [])) (sym e) (λ b i. i)
    has_all y (inr i) = absurd i

    stand : (x : Section) → IsIn x (run ∷ []) → (k : Section) × IsIn k (run ∷ []) × StandsIn (run ∷ []) x k
    stand x (inl e) = (
      run,
      inl refl,
      subst (λ (x : Section). StandsIn (run ∷ []) x run) (sym e) (record {
        has_all = λ y i between. has_all y i;
        more = λ lt. absurd (omega arith);
      }),
    )
    stand x (inr i) = absurd i

it_is_left : AreThinRuns one (run ∷ [])
it_is_left = record { runs = run ∷ []; plain = one_run; thinned = its_own }

-- what is left of it is not nothing
not_nothing : AreThinRuns one [] → ⊥
not_nothing h = let r = h.thinned.stand (there h.runs ((h.plain.runs 0).1 run_at_0)).0 (there h.runs
    ((h.plain.runs 0).1 run_at_0)).1 in absurd r.1
  where
    there : (sections : List Section) → IsIn 0 (starts_of sections) → (x : Section) × IsIn x sections
    there [] i = absurd i
    there (x ∷ xs) (inl e) = (x, inl refl)
    there (x ∷ xs) (inr i) = let r = there xs i in (r.0, inr r.1)

kept_before_second : AreThinnedBefore one edges 1 (run ∷ [])
kept_before_second = record {
  sections = run ∷ [];
  runs = run_before_second;
  thinned = record { stretches = ([], [], [], stretch, refl); apart = (tt, tt, tt) };
}
  where
    stretch : IsStretch (run ∷ []) [] run [] []
    stretch = record { is = refl; lesser = λ x i. absurd i; within = λ x i. absurd i }

-- ---- switches
put_in : IsSwitched [] 3 true (3 ∷ [])
unfolding has
put_in = record { rises = ((λ y i. absurd i), tt); own = refl; others = λ c n. grind (arith, nat_tests) }

not_put_in : IsSwitched (2 ∷ 5 ∷ []) 3 true (2 ∷ 5 ∷ []) → ⊥
unfolding has
not_put_in s = let e = s.own in absurd cc
