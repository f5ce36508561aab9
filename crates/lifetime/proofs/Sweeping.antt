-- Going from one edge moment to the next.
use Rattle.std.proofs.Common.{◌≡◌, ◌≢◌, ℕ, suc, ◌<◌, ◌≤◌, ◌⊎◌, inl, inr, Bool, true, false, List, [], ◌∷◌, ◌++◌, length, filter, refl, sym, ap, ◌∙◌, arith, length-append}
use Rattle.dsa_terms.specs.Buffers.{Instance, buffer, is_live}
use Rattle.dsa_terms.specs.Claims.{IsIn}
use Rattle.dsa_terms.specs.Parts.{numbers}
use Rattle.dsa_model.specs.Lists.{pair_at}
use Rattle.dsa_terms.proofs.Lists.{from_append, left_append, right_append}
use Rattle.dsa_terms.proofs.Places.{place_of}
use Rattle.dsa_terms.proofs.NumberTests.{below_or_from}
use Rattle.dsa_terms.proofs.Ranges.{below, rises-push}
use Rattle.dsa_model.proofs.Live.{not_live_before}
use Rattle.std.proofs.lemmas.List.{map-append}
use Rattle.lifetime.specs.Edges.{AreEdges, AreRunsBefore, IsPassed, edge_moments}
use Rattle.lifetime.specs.Runs.{BeginsRun, live_before, starts_of, was_live}
use Rattle.lifetime.specs.SectionList.{Section, live_at, section_with}
use Rattle.lifetime.proofs.Lists.{filter_same}
use Rattle.lifetime.proofs.Stays.{not_live_before_lower, quiet, was_live_after}

-- what is known before the edges from the next on
pub record IsSweeping (I : Instance) (edges : List (ℕ × ℕ)) (next : ℕ) (live : List ℕ) (sections : List Section) :
    Type 0 where
  pub within : next ≤ length edges
  pub fresh : (k : ℕ) → k < next → next < length edges → (pair_at edges k).0 < (pair_at edges next).0
  pub were : next < length edges → live ≡ live_before I (pair_at edges next).0
  pub runs : AreRunsBefore I edges next sections
  pub limit : length sections ≤ next

which : (m n : ℕ) → (m < n) ⊎ ((m ≡ n) ⊎ (n < m))
which m n = grind arith

-- the edge of a buffer stands somewhere
edge_place : (I : Instance) (edges : List (ℕ × ℕ)) (b t : ℕ) → AreEdges I edges → b < length I →
    IsIn t (edge_moments (buffer I b)) →
    (k : ℕ) × (k < length edges) × ((pair_at edges k).0 ≡ t)
edge_place I edges b t a bn i =
    let r = place_of edges (t, b) (0, 0) (a.complete b t bn i) in
    (r.0, r.1, ap (λ (e : ℕ × ℕ). e.0) r.2)

-- before all edges nothing is live
nothing_before : (I : Instance) (edges : List (ℕ × ℕ)) (t : ℕ) → AreEdges I edges →
    ((k : ℕ) → k < length edges → t < (pair_at edges k).0) → live_at I t ≡ []
unfolding live_at
nothing_before I edges t a h = none (numbers (length I)) (λ b i. i)
  where
    dead : (b : ℕ) → b < length I → is_live (buffer I b) t ≡ false
    dead b bn =
        let r = edge_place I edges b (buffer I b).lower a bn (inl refl) in
        let k = h r.0 r.1 in let e = r.2 in
        not_live_before (buffer I b) t (omega arith)

    none : (bs : List ℕ) → ((b : ℕ) → IsIn b bs → IsIn b (numbers (length I))) →
        filter (λ b. is_live (buffer I b) t) bs ≡ []
    none [] h = refl
    none (b ∷ bs) h = rw (dead b (below (length I) b (h b (inl refl)))) (none bs (λ c i. h c (inr i)))

-- where no edge is, what is live stays
stays_at : (I : Instance) (edges : List (ℕ × ℕ)) (t : ℕ) → AreEdges I edges →
    ((k : ℕ) → k < length edges → (pair_at edges k).0 ≢ t) → live_at I t ≡ live_before I t
unfolding live_at live_before
stays_at I edges t a h = filter_same (λ b. is_live (buffer I b) t) (λ b. was_live (buffer I b) t) (numbers (length I))
    (λ b i. let bn = below (length I) b i in quiet (buffer I b) t
    (λ j. let r = edge_place I edges b t a bn j in h r.0 r.1 r.2))

-- nor was it before them
none_before : (I : Instance) (edges : List (ℕ × ℕ)) → AreEdges I edges → 0 < length edges →
    [] ≡ live_before I (pair_at edges 0).0
unfolding live_before
none_before I edges a lt = sym (none (numbers (length I)) (λ b i. i))
  where
    dead : (b : ℕ) → b < length I → was_live (buffer I b) (pair_at edges 0).0 ≡ false
    dead b bn =
        let r = edge_place I edges b (buffer I b).lower a bn (inl refl) in
        let k = a.sorted 0 r.0 (0, 0) (omega arith) r.1 in let z = r.2 in
        not_live_before_lower (buffer I b) (pair_at edges 0).0 (omega arith)

    none : (bs : List ℕ) → ((b : ℕ) → IsIn b bs → IsIn b (numbers (length I))) →
        filter (λ b. was_live (buffer I b) (pair_at edges 0).0) bs ≡ []
    none [] h = refl
    none (b ∷ bs) h = rw (dead b (below (length I) b (h b (inl refl)))) (none bs (λ c i. h c (inr i)))

pub sweeping_none : (I : Instance) (edges : List (ℕ × ℕ)) (live : List ℕ) → AreEdges I edges → live ≡ [] →
    IsSweeping I edges 0 live []
sweeping_none I edges live a e = record {
  within = omega arith;
  fresh = λ k lt. absurd (omega arith);
  were = λ lt. e ∙ none_before I edges a lt;
  runs = record {
    each = λ x i. absurd i;
    rise = tt;
    runs = λ t. (
      (λ i. absurd i),
      λ q. absurd (q.0.something
          (nothing_before I edges t a (λ k lt. q.1 k (omega arith) lt))),
    );
  };
  limit = omega arith;
}

-- what is live at a moment was live before a later one, if no edge lies between
stays_until : (I : Instance) (t next : ℕ) → t < next →
    ((b : ℕ) → b < length I → (u : ℕ) → t < u → u < next → IsIn u (edge_moments (buffer I b)) → ⊥) →
    live_at I t ≡ live_before I next
unfolding live_at live_before
stays_until I t next lt h = filter_same (λ b. is_live (buffer I b) t) (λ b. was_live (buffer I b) next)
    (numbers (length I)) (λ b i. sym (was_live_after (buffer I b) t next lt (h b (below (length I) b i))))

-- ---- one moment on
pub record MovesOn (I : Instance) (edges : List (ℕ × ℕ)) (first next : ℕ) (live now : List ℕ)
    (sections : List Section) (changed : Bool) : Type 0 where
  pub edges_of_it : AreEdges I edges
  pub before : IsSweeping I edges first live sections
  pub in_edges : first < length edges
  pub passed : IsPassed I edges first next changed now

module _ (I : Instance) (edges : List (ℕ × ℕ)) (first next : ℕ) (live now : List ℕ) (sections : List Section)
    (changed : Bool) (m : MovesOn I edges first next live now sections changed) where
  moment : ℕ
  moment = (pair_at edges first).0

  -- where a run begins before the next edges it begins before this moment or at it
  none_between : (t : ℕ) → (pair_at edges first).0 < t →
      ((k : ℕ) → next ≤ k → k < length edges → t < (pair_at edges k).0) → live_at I t ≡ live_before I t
  none_between t low high = stays_at I edges t m.edges_of_it (λ k lt. elim (below_or_from k next) [
    | inl q ↦ (λ e. let z = m.passed.after.passed k q in absurd (omega arith))
    | inr q ↦ (λ e. let z = high k q lt in absurd (omega arith))
  ])

  before_first : (t : ℕ) → t < (pair_at edges first).0 → (k : ℕ) → first ≤ k → k < length edges →
      t < (pair_at edges k).0
  before_first t lt k le kn = let z = m.edges_of_it.sorted first k (0, 0) le kn in omega arith

  before_next : (t : ℕ) → t ≤ (pair_at edges first).0 → (k : ℕ) → next ≤ k → k < length edges → t < (pair_at edges k).0
  before_next t le k low kn = let z = m.passed.after.later k low kn in omega arith

  first_before : (t : ℕ) → ((k : ℕ) → first ≤ k → k < length edges → t < (pair_at edges k).0) →
      t < (pair_at edges first).0
  first_before t h = h first (omega arith) m.in_edges

  runs_same : (live_at I (pair_at edges first).0 ≡ live_before I (pair_at edges first).0) ⊎
      (live_at I (pair_at edges first).0 ≡ []) → AreRunsBefore I edges next sections
  runs_same quiet = record {
    each = m.before.runs.each;
    rise = m.before.runs.rise;
    runs = λ t. (forth t, back t);
  }
    where
      forth : (t : ℕ) → IsIn t (starts_of sections) → BeginsRun I t ×
          ((k : ℕ) → next ≤ k → k < length edges → t < (pair_at edges k).0)
      forth t i = let q = (m.before.runs.runs t).0 i in (q.0, before_next t (let z = first_before t q.1 in omega arith))

      back : (t : ℕ) → BeginsRun I t × ((k : ℕ) → next ≤ k → k < length edges → t < (pair_at edges k).0) →
          IsIn t (starts_of sections)
      back t q = elim (which t (pair_at edges first).0) [
        | inl less ↦ (m.before.runs.runs t).1 (q.0, before_first t less)
        | inr r ↦ elim r [
          | inl same ↦ elim quiet [
            | inl e ↦ absurd (q.0.changed (rw same e))
            | inr e ↦ absurd (q.0.something (rw same e))
          ]
          | inr more ↦ absurd (q.0.changed (none_between t more q.1))
        ]
      ]

  runs_more : live_at I (pair_at edges first).0 ≢ live_before I (pair_at edges first).0 →
      live_at I (pair_at edges first).0 ≢ [] →
      AreRunsBefore I edges next
      (sections ++ section_with (pair_at edges first).0 (live_at I (pair_at edges first).0) ∷ [])
  runs_more changes something = record {
    each = each;
    rise = rw (map-append (λ (x : Section). x.start) sections (added ∷ []))
        (rises-push (starts_of sections) (pair_at edges first).0 m.before.runs.rise
        (λ t i. first_before t ((m.before.runs.runs t).0 i).1));
    runs = λ t. (forth t, back t);
  }
    where
      added : Section
      added = section_with (pair_at edges first).0 (live_at I (pair_at edges first).0)

      each : (x : Section) → IsIn x (sections ++ added ∷ []) → x.members ≡ live_at I x.start
      each x i = elim (from_append sections (added ∷ []) x i) [
        | inl j ↦ m.before.runs.each x j
        | inr j ↦ elim j [ inl f ↦ rw f refl | inr k ↦ absurd k ]
      ]

      begins : BeginsRun I (pair_at edges first).0
      begins = record { something = something; changed = changes }

      forth : (t : ℕ) → IsIn t (starts_of (sections ++ added ∷ [])) →
          BeginsRun I t × ((k : ℕ) → next ≤ k → k < length edges → t < (pair_at edges k).0)
      forth t i = elim (from_append (starts_of sections) ((pair_at edges first).0 ∷ []) t
          (rw (map-append (λ (x : Section). x.start) sections (added ∷ [])) at i)) [
            | inl j ↦ let q = (m.before.runs.runs t).0 j in
                (q.0, before_next t (let z = first_before t q.1 in omega arith))
            | inr j ↦ elim j [ inl f ↦ (rw f begins, before_next t (omega arith)) | inr k ↦ absurd k ]
          ]

      put : (t : ℕ) → IsIn t (starts_of sections) ⊎ (t ≡ (pair_at edges first).0) →
          IsIn t (starts_of (sections ++ added ∷ []))
      put t (inl i) = rw (map-append (λ (x : Section). x.start) sections (added ∷ []))
          (left_append (starts_of sections) ((pair_at edges first).0 ∷ []) t i)
      put t (inr f) = rw (map-append (λ (x : Section). x.start) sections (added ∷ []))
          (right_append (starts_of sections) ((pair_at edges first).0 ∷ []) t (inl f))

      back : (t : ℕ) → BeginsRun I t × ((k : ℕ) → next ≤ k → k < length edges → t < (pair_at edges k).0) →
          IsIn t (starts_of (sections ++ added ∷ []))
      back t q = elim (which t (pair_at edges first).0) [
        | inl less ↦ put t (inl ((m.before.runs.runs t).1 (q.0, before_first t less)))
        | inr r ↦ elim r [ inl same ↦ put t (inr same) | inr later ↦ absurd (q.0.changed (none_between t later q.1)) ]
      ]

  -- what is live now was live before the next edges
  were_next : next < length edges → now ≡ live_before I (pair_at edges next).0
  were_next lt = m.passed.are ∙ stays_until I (pair_at edges first).0 (pair_at edges next).0
      (m.passed.after.later next (omega arith) lt) between
    where
      between : (b : ℕ) → b < length I → (u : ℕ) → (pair_at edges first).0 < u → u < (pair_at edges next).0 →
          IsIn u (edge_moments (buffer I b)) → ⊥
      between b bn u low high i =
          let r = edge_place I edges b u m.edges_of_it bn i in
          elim (below_or_from r.0 next) [
            | inl q ↦ (let z = m.passed.after.passed r.0 q in let e = r.2 in absurd (omega arith))
            | inr q ↦ (let z = m.edges_of_it.sorted next r.0 (0, 0) q r.1 in let e = r.2 in absurd (omega arith))
          ]

  moved_on : (more : List Section) → AreRunsBefore I edges next more → length more ≤ suc (length sections) →
      IsSweeping I edges next now more
  moved_on more runs few = record {
    within = m.passed.after.within;
    fresh = λ k lt nl. let a = m.passed.after.passed k lt in let b = m.passed.after.later next (omega arith) nl in
        omega arith;
    were = were_next;
    runs = runs;
    limit = let a = m.before.limit in let b = m.passed.later in omega arith;
  }

  -- no run begins: nothing changed, or nothing is live
  pub moved_same : (changed ≡ false) ⊎ (now ≡ []) → IsSweeping I edges next now sections
  moved_same none = moved_on sections (runs_same (elim none [
    | inl e ↦ inl (m.passed.same e)
    | inr e ↦ inr (sym m.passed.are ∙ e)
  ])) (omega arith)

  -- a run begins
  pub moved_changed : changed ≡ true → now ≢ [] →
      IsSweeping I edges next now (sections ++ section_with (pair_at edges first).0 now ∷ [])
  moved_changed e some = moved_on (sections ++ section_with (pair_at edges first).0 now ∷ [])
      (rw m.passed.are (runs_more (m.passed.differs e) (rw (← m.passed.are) some)))
      (let k = length-append sections (section_with (pair_at edges first).0 now ∷ []) in omega arith)
