-- Passing the edges of one moment.
use Rattle.std.proofs.Common.{◌≡◌, ◌≢◌, ◌↔◌, ℕ, ◌+◌, ◌<◌, ◌≤◌, ◌⊎◌, inl, inr, Bool, IsTrue, true, false, List, length, slice_index_or, refl, sym, ap, ◌∙◌, subst, arith}
use Rattle.dsa_terms.specs.Buffers.{Instance, buffer, is_live}
use Rattle.dsa_terms.specs.Claims.{IsIn, Rises}
use Rattle.dsa_terms.specs.Parts.{has, numbers}
use Rattle.dsa_model.specs.Lists.{pair_at}
use Rattle.dsa_terms.proofs.Lists.{from_filter, has_in, in_has}
use Rattle.dsa_terms.proofs.Places.{place_of}
use Rattle.dsa_terms.proofs.NumberTests.{below_or_from, below_or_last, same_or_not}
use Rattle.dsa_terms.proofs.Ranges.{below, among}
use Rattle.lifetime.specs.Edges.{AreEdges, IsAfter, IsPassed, edge_moments}
use Rattle.lifetime.specs.Runs.{live_before, was_live}
use Rattle.lifetime.specs.SectionList.{live_at}
use Rattle.lifetime.specs.Switching.{IsSwitched}
use Rattle.lifetime.proofs.Lists.{filter_differs, filter_same, in_or_not, rises-numbers}
use Rattle.lifetime.proofs.Stays.{quiet}
use Rattle.lifetime.proofs.Switching.{filter_is, has_filter}

-- what is known once the edges from the first up to the next have been passed
pub record IsPassing (I : Instance) (edges : List (ℕ × ℕ)) (first t next : ℕ) (changed : Bool) (live : List ℕ) : Type
    0 where
  pub rises : Rises live
  pub in_range : (b : ℕ) → IsIn b live → b < length I
  pub begun : first ≤ next
  pub within : next ≤ length edges
  pub at_moment : (k : ℕ) → first ≤ k → k < next → (pair_at edges k).0 ≡ t
  pub touched : (k : ℕ) → first ≤ k → k < next → has (pair_at edges k).1 live ≡ is_live
      (buffer I (pair_at edges k).1) t
  pub others : (b : ℕ) → b < length I → (has b live ≡ was_live (buffer I b) t) ⊎
      (has b live ≡ is_live (buffer I b) t)
  pub same : changed ≡ false → (b : ℕ) → b < length I → has b live ≡ was_live (buffer I b) t
  pub differs : changed ≡ true → (b : ℕ) × (b < length I) × (is_live (buffer I b) t ≢ was_live (buffer I b) t)

before_rises : (I : Instance) (t : ℕ) (live : List ℕ) → live ≡ live_before I t → Rises live
unfolding live_before
before_rises I t live e = rw e (rises-numbers (λ b. was_live (buffer I b) t) (length I))

before_in_range : (I : Instance) (t : ℕ) (live : List ℕ) → live ≡ live_before I t → (b : ℕ) → IsIn b live →
    b < length I
unfolding live_before
before_in_range I t live e b i =
    below (length I) b (from_filter (λ b. was_live (buffer I b) t) (numbers (length I)) b (rw e at i)).0

before_has : (I : Instance) (t : ℕ) (live : List ℕ) → live ≡ live_before I t → (b : ℕ) → b < length I →
    has b live ≡ was_live (buffer I b) t
unfolding live_before
before_has I t live e b bn = ap (λ (xs : List ℕ). has b xs) e
    ∙ has_filter (λ b. was_live (buffer I b) t) (length I) b bn

pub none_passed : (I : Instance) (edges : List (ℕ × ℕ)) (first t : ℕ) (live : List ℕ) → first < length edges →
    live ≡ live_before I t → IsPassing I edges first t first false live
none_passed I edges first t live lt e = record {
  rises = before_rises I t live e;
  in_range = before_in_range I t live e;
  begun = omega arith;
  within = omega arith;
  at_moment = λ k low high. absurd (omega arith);
  touched = λ k low high. absurd (omega arith);
  others = λ b bn. inl (before_has I t live e b bn);
  same = λ _ b bn. before_has I t live e b bn;
  differs = λ h. absurd cc;
}

-- one more edge has been passed: whether its buffer is live has been brought up to date
pub pass_more : (I : Instance) (edges : List (ℕ × ℕ)) (first t next : ℕ) (changed more lives : Bool)
    (live now : List ℕ) (e : ℕ × ℕ) → IsPassing I edges first t next changed live →
    next < length edges → e ≡ pair_at edges next → e.0 ≡ t → e.1 < length I → lives ≡ is_live (buffer I e.1) t →
    IsSwitched live e.1 lives now →
    (more ≡ false → (changed ≡ false) × (has e.1 live ≡ lives)) →
    (more ≡ true → (changed ≡ true) ⊎ (has e.1 live ≢ lives)) →
    IsPassing I edges first t (next + 1) more now
pass_more I edges first t next changed more lives live now e p lt at here in_range is s same differs = record {
  rises = s.rises;
  in_range = λ b i. elim (same_or_not b e.1) [
    | inl h ↦ (let k = in_range in omega arith)
    | inr h ↦ p.in_range b (has_in b live (sym (s.others b h) ∙ in_has b now i))
  ];
  begun = let k = p.begun in omega arith;
  within = omega arith;
  at_moment = λ k low high. elim (below_or_last k next high) [
    | inl h ↦ p.at_moment k low h
    | inr h ↦ subst
        (λ (k : ℕ). (pair_at edges k).0 ≡ t) (sym h) (ap (λ (e : ℕ × ℕ). e.0) (sym at) ∙ here)
  ];
  touched = λ k low high. elim (below_or_last k next high) [
    | inl h ↦ kept (pair_at edges k).1 (p.touched k low h)
    | inr h ↦ subst (λ (k : ℕ). has (pair_at edges k).1 now ≡ is_live (buffer I (pair_at edges k).1) t) (sym h)
        (subst (λ (f : ℕ × ℕ). has f.1 now ≡ is_live (buffer I f.1) t) at (s.own ∙ is))
  ];
  others = λ b bn. elim (same_or_not b e.1) [
    | inl h ↦ inr (subst (λ (b : ℕ). has b now ≡ is_live (buffer I b) t) (sym h) (s.own ∙ is))
    | inr h ↦ elim (p.others b bn) [ inl q ↦ inl (s.others b h ∙ q) | inr q ↦ inr (s.others b h ∙ q) ]
  ];
  same = λ f b bn. elim (same_or_not b e.1) [
    | inl h ↦ subst (λ (b : ℕ). has b now ≡ was_live (buffer I b) t) (sym h)
        (s.own ∙ (sym (same f).1 ∙ p.same (same f).0 e.1 in_range))
    | inr h ↦ s.others b h ∙ p.same (same f).0 b bn
  ];
  differs = λ f. elim (differs f) [
    | inl h ↦ p.differs h
    | inr wrong ↦ (
      e.1,
      in_range,
      elim (p.others e.1 in_range)
          [ inl q ↦ (λ h. wrong (q ∙ (sym h ∙ sym is))) | inr q ↦ absurd (wrong (q ∙ sym is)) ],
    )
  ];
}
  where
    kept : (b : ℕ) → has b live ≡ is_live (buffer I b) t → has b now ≡ is_live (buffer I b) t
    kept b h = elim (same_or_not b e.1) [
      | inl k ↦ subst (λ (b : ℕ). has b now ≡ is_live (buffer I b) t) (sym k) (s.own ∙ is)
      | inr k ↦ s.others b k ∙ h
    ]

-- the list changed
pub pass_changed : (I : Instance) (edges : List (ℕ × ℕ)) (first t next : ℕ) (changed told lives : Bool)
    (live now : List ℕ) (e : ℕ × ℕ) → IsPassing I edges first t next changed live →
    next < length edges → e ≡ pair_at edges next → e.0 ≡ t → e.1 < length I → lives ≡ is_live (buffer I e.1) t →
    IsSwitched live e.1 lives now → (IsTrue told ↔ (has e.1 live ≢ lives)) → told ≡ true →
    IsPassing I edges first t (next + 1) true now
pass_changed I edges first t next changed told lives live now e p lt at here in_range is s h so =
    pass_more I edges first t next changed true lives live now e p lt at here in_range is s (λ f. absurd cc)
    (λ f. inr (h.0 (rw so refl)))

-- or it stayed
pub pass_unchanged : (I : Instance) (edges : List (ℕ × ℕ)) (first t next : ℕ) (changed told lives : Bool)
    (live now : List ℕ) (e : ℕ × ℕ) → IsPassing I edges first t next changed live →
    next < length edges → e ≡ pair_at edges next → e.0 ≡ t → e.1 < length I → lives ≡ is_live (buffer I e.1) t →
    IsSwitched live e.1 lives now → (IsTrue told ↔ (has e.1 live ≢ lives)) → told ≡ false →
    IsPassing I edges first t (next + 1) changed now
pass_unchanged I edges first t next changed told lives live now e p lt at here in_range is s h so =
    pass_more I edges first t next changed changed lives live now e p lt at here in_range is s
    (λ f. (f, equal (has e.1 live) lives (λ n. let k = h.1 n in absurd cc))) inl
  where
    equal : (p q : Bool) → (p ≢ q → ⊥) → p ≡ q
    equal true true h = refl
    equal true false h = absurd (h (λ e. absurd cc))
    equal false true h = absurd (h (λ e. absurd cc))
    equal false false h = refl

-- ---- all edges of the moment passed
pub record HasPassed (I : Instance) (edges : List (ℕ × ℕ)) (first t next : ℕ) (changed : Bool) (live : List ℕ) :
    Type 0 where
  pub edges_of_it : AreEdges I edges
  pub passing : IsPassing I edges first t next changed live
  pub in_edges : first < length edges
  pub moment : t ≡ (pair_at edges first).0
  pub fresh : (k : ℕ) → k < first → (pair_at edges k).0 < t
  pub ended : (next < length edges) → (pair_at edges next).0 ≢ t

pub passed_later : (I : Instance) (edges : List (ℕ × ℕ)) (first t next : ℕ) (changed : Bool) (live : List ℕ) →
    HasPassed I edges first t next changed live → first < next
passed_later I edges first t next changed live h = go (same_or_not first next)
  where
    go : (first ≡ next) ⊎ (first ≢ next) → first < next
    go (inr n) = let k = h.passing.begun in omega arith
    go (inl e) = absurd (h.ended (let k = h.in_edges in omega arith)
        (subst (λ (k : ℕ). (pair_at edges k).0 ≡ t) e (sym h.moment)))

pub passed_after : (I : Instance) (edges : List (ℕ × ℕ)) (first t next : ℕ) (changed : Bool) (live : List ℕ) →
    HasPassed I edges first t next changed live → IsAfter edges next t
passed_after I edges first t next changed live h = record {
  within = h.passing.within;
  passed = passed;
  later = later;
}
  where
    passed : (k : ℕ) → k < next → (pair_at edges k).0 ≤ t
    passed k lt = elim (below_or_from k first) [
      | inl q ↦ let z = h.fresh k q in omega arith
      | inr q ↦ let z = h.passing.at_moment k q lt in omega arith
    ]

    later : (k : ℕ) → next ≤ k → k < length edges → t < (pair_at edges k).0
    later k le lt =
        let a : (pair_at edges first).0 ≤ (pair_at edges next).0 = h.edges_of_it.sorted first next (0, 0)
        h.passing.begun (omega arith) in
        let b : (pair_at edges next).0 ≤ (pair_at edges k).0 = h.edges_of_it.sorted next k (0, 0) le lt in
        let c = h.moment in
        let d = h.ended (omega arith) in
        omega arith

-- the list tells of each buffer whether it is live
passed_has : (I : Instance) (edges : List (ℕ × ℕ)) (first t next : ℕ) (changed : Bool) (live : List ℕ) →
    HasPassed I edges first t next changed live → (b : ℕ) → b < length I →
    has b live ≡ is_live (buffer I b) t
passed_has I edges first t next changed live h b bn = elim (in_or_not t (edge_moments (buffer I b))) [
  | inl i ↦ at_edge b (place_of edges (t, b) (0, 0) (h.edges_of_it.complete b t bn i))
  | inr n ↦ elim (h.passing.others b bn) [ inl q ↦ q ∙ sym (quiet (buffer I b) t n) | inr q ↦ q ]
]
  where
    at_edge : (b : ℕ) → (k : ℕ) × (k < length edges) × (slice_index_or edges k (0, 0) ≡ (t, b)) →
        has b live ≡ is_live (buffer I b) t
    at_edge b r = subst (λ (b : ℕ). has b live ≡ is_live (buffer I b) t) number (h.passing.touched r.0 low high)
      where
        number : (pair_at edges r.0).1 ≡ b
        number = ap (λ (e : ℕ × ℕ). e.1) r.2

        moment : (pair_at edges r.0).0 ≡ t
        moment = ap (λ (e : ℕ × ℕ). e.0) r.2

        low : first ≤ r.0
        low = elim (below_or_from r.0 first) [
          | inl q ↦ absurd (let z = h.fresh r.0 q in let m = moment in omega arith)
          | inr q
              ↦ q
        ]

        high : r.0 < next
        high = elim (below_or_from r.0 next) [
          | inl q ↦ q
          | inr q ↦ absurd
              (let z = (passed_after I edges first t next changed live h).later r.0 q r.1 in let m = moment in omega
              arith)
        ]

passed_live : (I : Instance) (edges : List (ℕ × ℕ)) (first t next : ℕ) (changed : Bool) (live : List ℕ) →
    HasPassed I edges first t next changed live → live ≡ live_at I t
unfolding live_at
passed_live I edges first t next changed live h = filter_is (λ b. is_live (buffer I b) t) (length I) live
    h.passing.rises h.passing.in_range (passed_has I edges first t next changed live h)

pub passed_same : (I : Instance) (edges : List (ℕ × ℕ)) (first t next : ℕ) (changed : Bool) (live : List ℕ) →
    HasPassed I edges first t next changed live → changed ≡ false →
    live_at I t ≡ live_before I t
unfolding live_at live_before
passed_same I edges first t next changed live h e =
    filter_same (λ b. is_live (buffer I b) t) (λ b. was_live (buffer I b) t) (numbers (length I))
    (λ b i. let bn = below (length I) b i in
    sym (passed_has I edges first t next changed live h b bn) ∙ h.passing.same e b bn)

pub passed_changed : (I : Instance) (edges : List (ℕ × ℕ)) (first t next : ℕ) (changed : Bool) (live : List ℕ) →
    HasPassed I edges first t next changed live → changed ≡ true →
    live_at I t ≢ live_before I t
unfolding live_at live_before
passed_changed I edges first t next changed live h e =
    let r = h.passing.differs e in
    filter_differs (λ b. is_live (buffer I b) t) (λ b. was_live (buffer I b) t) (numbers (length I)) r.0
    (among (length I) r.0 r.1) r.2

pub passed_all : (I : Instance) (edges : List (ℕ × ℕ)) (first t next : ℕ) (changed : Bool) (live : List ℕ) →
    HasPassed I edges first t next changed live →
    IsPassed I edges first next changed live
passed_all I edges first t next changed live h = record {
  after = rw (← h.moment) (passed_after I edges first t next changed live h);
  later = passed_later I edges first t next changed live h;
  are = rw (← h.moment) (passed_live I edges first t next changed live h);
  same = λ e. rw (← h.moment) (passed_same I edges first t next changed live h e);
  differs = λ e. rw (← h.moment) (passed_changed I edges first t next changed live h e);
}
