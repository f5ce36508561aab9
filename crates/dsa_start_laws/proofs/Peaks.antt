-- The least capacity, the one peak, and the bound's lean log.
use Rattle.std.proofs.Common.{◌≡◌, ℕ, zero, suc, ◌-◌, ◌<◌, ◌≤◌, ◌≢◌, ◌⊎◌, inl, inr, Bool, true, false, ◌==◌, List, [], ◌∷◌, map, slice_get, take, Some, sym, refl, ap, ◌∙◌, subst, arith}
use Rattle.dsa_terms.specs.Buffers.{Instance}
use Rattle.dsa_terms.specs.Layouts.{IsFeasible, IsInfeasible, IsLeast}
use Rattle.dsa_terms.specs.Claims.{Claim, Entry, IsIn}
use Rattle.dsa_terms.specs.Logs.{greatest, Line, Over, claim_of, IsLegal}
use Rattle.dsa_terms.specs.Parts.{are_uncut}
use Rattle.dsa_terms.specs.Plans.{load, IsPeak}
use Rattle.dsa_terms.specs.Bounds.{moments, line_height, stack_line, stack_log}
use Rattle.dsa_terms.specs.Lean.{IsLeanLine, IsLean}
use Rattle.dsa_terms.proofs.Lists.{true_or_false}
use Rattle.dsa_terms.proofs.NumberTests.{differ, equal, same, same_or_not}
use Rattle.dsa_search_laws.proofs.Cuts.{sharing_is_one_part}
use Rattle.dsa_search_laws.proofs.Logs.{feasible_higher}
use Rattle.dsa_search_laws.proofs.Uncut.{starts_uncut}
use Rattle.dsa_start_laws.specs.Piles.{counted_buffers}
use Rattle.dsa_start_laws.proofs.Piles.{in_counted, stack_line_is_pile}
use Rattle.dsa_start_laws.proofs.OverLines.{all_at_bound, in_bound, in_line, legal_is_over, legal_height}
use Rattle.dsa_start_laws.proofs.Stacks.{greatest_of, under_moments, dead_stack}
use Rattle.dsa_start_laws.proofs.Loads.{load_is_stack}

-- ---- the least number that passes
record IsLeastPassing (p : ℕ → Bool) (t : ℕ) : Type 0 where
  passes : p t ≡ true
  least : (s : ℕ) → s < t → p s ≡ false

search_below : (p : ℕ → Bool) (n : ℕ) → ((s : ℕ) → s < n → p s ≡ false) ⊎ ((t : ℕ) × IsLeastPassing p t)
search_below p zero = inl (λ s lt. absurd (omega arith))
search_below p (suc n) = go (search_below p n) (true_or_false (p n))
  where
    cases : (s n : ℕ) → s < suc n → (s < n) ⊎ (s ≡ n)
    cases s n h = grind arith

    go : ((s : ℕ) → s < n → p s ≡ false) ⊎ ((t : ℕ) × IsLeastPassing p t) → (p n ≡ true) ⊎ (p n ≡ false) →
        ((s : ℕ) → s < suc n → p s ≡ false) ⊎ ((t : ℕ) × IsLeastPassing p t)
    go (inr r) e = inr r
    go (inl f) (inl e) = inr (n, record { passes = e; least = f })
    go (inl f) (inr e) = inl (λ s lt. elim (cases s n lt) [ inl l ↦ f s l | inr q ↦ ap p q ∙ e ])

least_passing : (p : ℕ → Bool) (n : ℕ) → p n ≡ true → (t : ℕ) × IsLeastPassing p t
least_passing p n e = elim (search_below p (suc n)) [
  | inl f ↦ absurd (let k : p n ≡ false = f n (omega arith) in cc)
  | inr r ↦ r
]

-- ---- the peak
pub load_under : (I : Instance) (t : ℕ) → load I t ≤ greatest (map (load I) (moments I))
load_under I t = under_moments I (load I) t (λ d. sym (load_is_stack I t) ∙ dead_stack I t 0 1 d)

reached : (I : Instance) → (t : ℕ) × (load I t ≡ greatest (map (load I) (moments I)))
reached I = elim (greatest_of (load I) (moments I)) [
  | inl z ↦ (0, (let a = load_under I 0 in omega arith))
  | inr r ↦ (r.0, sym r.2)
]

pub has_peak : (I : Instance) → I ≢ [] → (t : ℕ) × IsPeak I t
has_peak I some =
    let r = reached I in
    let t = least_passing (λ t. load I t == greatest (map (load I) (moments I))) r.0
    (same (load I r.0) (greatest (map (load I) (moments I))) r.1) in
    let top : load I t.0 ≡ greatest (map (load I) (moments I)) = equal (load I t.0)
    (greatest (map (load I) (moments I))) t.1.passes in (
      t.0,
      record {
        not_empty = some;
        most = λ s. let a = load_under I s in omega arith;
        earliest = λ s lt. let a = load_under I s in
            let n = differ (load I s) (greatest (map (load I) (moments I))) (t.1.least s lt) in omega arith;
      },
    )

pub one_peak : (I : Instance) (s t : ℕ) → IsPeak I s → IsPeak I t → s ≡ t
one_peak I s t p q = go (cases s t)
  where
    cases : (m n : ℕ) → (m < n) ⊎ ((n < m) ⊎ (m ≡ n))
    cases m n = grind arith

    go : (s < t) ⊎ ((t < s) ⊎ (s ≡ t)) → s ≡ t
    go (inl lt) = absurd (let a = q.earliest s lt in let b = p.most t in omega arith)
    go (inr (inl lt)) = absurd (let a = p.earliest t lt in let b = q.most s in omega arith)
    go (inr (inr e)) = e

-- ---- the bound's log is lean
-- one modulus lower the line is not legal
not_lower : (I : Instance) (t H G C : ℕ) (earlier : List Line) → line_height I t H G C ≢ 0 →
    IsLegal I C earlier (stack_line I t H G (line_height I t H G C - G)) → ⊥
not_lower I t H G C earlier n l =
    let o = legal_is_over I t H G (line_height I t H G C - G) C earlier l in
    let k = legal_height I t H G C (line_height I t H G C - G) earlier l in
    let p = o.0 in
    omega arith

lowered : (h G : ℕ) (p : List ℕ) → map (λ (e : Entry). let f : Entry = (e.0, h - G) in f) (all_at_bound h p)
    ≡ all_at_bound (h - G) p
lowered h G [] = refl
lowered h G (b ∷ bs) = ap (λ es. let f : Entry = (b, h - G) in f ∷ es) (lowered h G bs)

stack_line_is_lean : (I : Instance) (t H G C : ℕ) (earlier : List Line) →
    IsLeanLine I C earlier (stack_line I t H G (line_height I t H G C))
stack_line_is_lean I t H G C earlier = subst (λ (line : Line). IsLeanLine I C earlier line)
    (sym (stack_line_is_pile I t H G h)) (record {
      live = λ e i. (in_counted I t H G e.0 (in_bound h (counted_buffers I t H G) e i).0).1;
      bounds = λ e i. (in_bound h (counted_buffers I t H G) e i).1;
      lowest = elim (same_or_not h 0) [
        | inl z ↦ inl z
        | inr n ↦ inr (λ l. not_lower I t H G C earlier n (subst (λ (line : Line). IsLegal I C earlier line)
            (sym (stack_line_is_pile I t H G (h - G))) (subst (λ (m : Claim). IsLegal I C earlier (Over m t (h - G) G))
            (lowered h G (counted_buffers I t H G)) l)))
      ];
    })
  where
    h : ℕ
    h = line_height I t H G C

pub stack_is_lean : (I : Instance) (t H G C : ℕ) → IsLean I (stack_log I t H G C)
unfolding stack_log
stack_is_lean I t H G C = record {
  uncovered = λ j k earlier line lt p q c. two_lines j k earlier line lt p q;
  lean = lean;
  one_part = λ j k other line e f p q i m. together e f (among j other e p i) (among k line f q m);
}
  where
    h : ℕ
    h = line_height I t H G C

    two_lines : (j k : ℕ) (earlier line : Line) → j < k →
        slice_get (stack_line I t H G h ∷ []) j ≡ Some earlier →
        slice_get (stack_line I t H G h ∷ []) k ≡ Some line → ⊥
    two_lines j zero earlier line lt p q = omega arith
    two_lines j (suc k) earlier line lt p q = cc

    lean : (k : ℕ) (line : Line) → slice_get (stack_line I t H G h ∷ []) k ≡ Some line →
        IsLeanLine I C (take k (stack_line I t H G h ∷ [])) line
    lean zero line q = let e : stack_line I t H G h ≡ line = cc in rw (← e) (stack_line_is_lean I t H G C [])
    lean (suc k) line q = absurd cc

    among : (k : ℕ) (line : Line) (e : Entry) → slice_get (stack_line I t H G h ∷ []) k ≡ Some line →
        IsIn e (claim_of line) → IsIn e.0 (counted_buffers I t H G)
    among zero line e m i = let q : stack_line I t H G h ≡ line = cc in
        (in_line I t H G h e (subst (λ (line : Line). IsIn e (claim_of line)) (sym q) i)).0
    among (suc k) line e m i = absurd cc

    together : (e f : Entry) → IsIn e.0 (counted_buffers I t H G) → IsIn f.0 (counted_buffers I t H G) →
        are_uncut I e.0 f.0 ≡ true
    together e f i j =
        let a = in_counted I t H G e.0 i in
        let b = in_counted I t H G f.0 j in
        starts_uncut I e.0 f.0 (sharing_is_one_part I e.0 f.0 t a.0 b.0 a.1 b.1)

-- ---- no capacity below the least one has a layout
pub none_below : (I : Instance) (C D : ℕ) → IsLeast I C → D < C → IsInfeasible I D
none_below I C D h lt offsets l = elim h.1 [
  | inl z ↦ omega arith
  | inr f ↦ (let up = feasible_higher I D (C - 1) (omega arith) (offsets, l) in f up.0 up.1)
]

pub one_least : (I : Instance) (C D : ℕ) → IsLeast I C → IsLeast I D → C ≡ D
one_least I C D p q = go (cases C D)
  where
    cases : (m n : ℕ) → (m < n) ⊎ ((n < m) ⊎ (m ≡ n))
    cases m n = grind arith

    go : (C < D) ⊎ ((D < C) ⊎ (C ≡ D)) → C ≡ D
    go (inl lt) = absurd (none_below I D C q lt p.0.0 p.0.1)
    go (inr (inl lt)) = absurd (none_below I C D p lt q.0.0 q.0.1)
    go (inr (inr e)) = e

pub least_from : (I : Instance) (C : ℕ) → IsFeasible I C → ((D : ℕ) → D < C → IsInfeasible I D) → IsLeast I C
least_from I C f h = (f, go (cases C))
  where
    cases : (n : ℕ) → (n ≡ 0) ⊎ (1 ≤ n)
    cases n = grind arith

    go : (C ≡ 0) ⊎ (1 ≤ C) → (C ≡ 0) ⊎ IsInfeasible I (C - 1)
    go (inl z) = inl z
    go (inr le) = inr (h (C - 1) (omega arith))
