-- The first section of greatest load begins at the peak.
use Rattle.std.proofs.Common.{◌≡◌, ◌≢◌, ℕ, zero, suc, ◌<◌, ◌≤◌, ◌⊎◌, inl, inr, Bool, true, false, cond, List, [], ◌∷◌, length, map, filter, slice_index, slice_index_or, Option, Some, None, refl, sym, ap, ◌∙◌, subst, arith}
use Rattle.std.specs.List.{All, sum_by}
use Rattle.std.proofs.lemmas.List.Sums.{sum_by-cons}
use Rattle.dsa_terms.specs.Buffers.{Instance, IsLive, buffer, is_live}
use Rattle.dsa_terms.specs.Claims.{IsIn}
use Rattle.dsa_terms.specs.Parts.{numbers}
use Rattle.dsa_terms.specs.Plans.{IsPeak, load}
use Rattle.dsa_terms.proofs.Lists.{nil_or_not}
use Rattle.dsa_terms.proofs.NumberTests.{below_or_from, same_or_not}
use Rattle.dsa_terms.proofs.Ranges.{below}
use Rattle.dsa_model.specs.Buffer.{IsBuffer}
use Rattle.lifetime.specs.SectionList.{AreSectionsOf, Section, SectionList, count_of, live_at, members_of, no_section, start_of}
use Rattle.lifetime.proofs.Belonging.{from_live}
use Rattle.lifetime.proofs.Loads.{load_is}
use Rattle.load_profile.specs.LoadProfile.{IsFirstGreatest, IsGreatestOf, IsPeakOf, load_of, loads_of}

-- ---- more buffers weigh no less
sum_grows : (f : ℕ → ℕ) (p q : ℕ → Bool) (xs : List ℕ) → ((x : ℕ) → IsIn x xs → p x ≡ true → q x ≡ true) →
    sum_by f (filter p xs) ≤ sum_by f (filter q xs)
sum_grows f p q [] h = omega arith
sum_grows f p q (x ∷ xs) h = go (sum_grows f p q xs (λ y i. h y (inr i))) (p x) (q x) refl refl
  where
    go : sum_by f (filter p xs) ≤ sum_by f (filter q xs) → (a b : Bool) → p x ≡ a → q x ≡ b →
        sum_by f (cond a (x ∷ filter p xs) (filter p xs)) ≤ sum_by f (cond b (x ∷ filter q xs) (filter q xs))
    go ih true true e g = rw (sum_by-cons f x (filter p xs), sum_by-cons f x (filter q xs)) (omega arith)
    go ih true false e g = absurd (let k : q x ≡ true = h x (inl refl) e in cc)
    go ih false true e g = rw (sum_by-cons f x (filter q xs)) (omega arith)
    go ih false false e g = ih

load_grows : (I : Instance) (t s : ℕ) → ((b : ℕ) → b < length I → IsLive (buffer I b) t → IsLive (buffer I b) s) →
    load I t ≤ load I s
unfolding live_at
load_grows I t s h = rw (load_is I t, load_is I s)
    (sum_grows (λ b. (buffer I b).size) (λ b. is_live (buffer I b) t) (λ b. is_live (buffer I b) s)
    (numbers (length I)) (λ b i. h b (below (length I) b i)))

-- ---- the least moment at or before s with this load
least_with : (I : Instance) (M s : ℕ) → load I s ≡ M →
    (u : ℕ) × (u ≤ s) × (load I u ≡ M) × ((v : ℕ) → v < u → load I v ≢ M)
least_with I M zero e = (0, omega arith, e, λ v lt. absurd (omega arith))
least_with I M (suc s) e = go (search_from s)
  where
    split : (v s : ℕ) → v < suc s → (v < s) ⊎ (v ≡ s)
    split v s h = grind arith

    -- a moment up to k with this load, or none
    search_from : (k : ℕ) → ((u : ℕ) × (u ≤ k) × (load I u ≡ M) × ((v : ℕ) → v < u → load I v ≢ M)) ⊎
        ((v : ℕ) → v ≤ k → load I v ≢ M)
    search_from zero = elim (same_or_not (load I 0) M) [
      | inl q ↦ inl (0, omega arith, q, λ v lt. absurd (omega arith))
      | inr q ↦ inr (λ v le. subst (λ (v : ℕ). load I v ≢ M) (let z : 0 ≡ v = omega arith in z) q)
    ]
    search_from (suc k) = step (search_from k) (same_or_not (load I (suc k)) M)
      where
        step : ((u : ℕ) × (u ≤ k) × (load I u ≡ M) × ((v : ℕ) → v < u → load I v ≢ M)) ⊎
            ((v : ℕ) → v ≤ k → load I v ≢ M) → (load I (suc k) ≡ M) ⊎ (load I (suc k) ≢ M) →
            ((u : ℕ) × (u ≤ suc k) × (load I u ≡ M) × ((v : ℕ) → v < u → load I v ≢ M)) ⊎
            ((v : ℕ) → v ≤ suc k → load I v ≢ M)
        step (inl r) q = inl (r.0, (let z = r.1 in omega arith), r.2, r.3)
        step (inr n) (inl q) = inl (suc k, omega arith, q, λ v lt. n v (omega arith))
        step (inr n) (inr q) = inr (λ v le. elim (split v (suc k) (omega arith))
            [ inl l ↦ n v (omega arith) | inr l ↦ subst (λ (v : ℕ). load I v ≢ M) (sym l) q ])

    go : ((u : ℕ) × (u ≤ s) × (load I u ≡ M) × ((v : ℕ) → v < u → load I v ≢ M)) ⊎ ((v : ℕ) → v ≤ s → load I v ≢ M) →
        (u : ℕ) × (u ≤ suc s) × (load I u ≡ M) × ((v : ℕ) → v < u → load I v ≢ M)
    go (inl r) = (r.0, (let z = r.1 in omega arith), r.2, r.3)
    go (inr n) = (suc s, omega arith, e, λ v lt. n v (omega arith))

-- where no buffer is ever live there is none
empty : (I : Instance) → All IsBuffer I → ((b : ℕ) → b < length I → ((t : ℕ) × IsLive (buffer I b) t) → ⊥) →
    length I ≡ 0
unfolding buffer
empty [] sound h = refl
empty (x ∷ xs) sound h = absurd (h 0 (omega arith) ((sound 0 x (omega arith)).lives))

-- ---- the peak
module _ (I : Instance) (S : SectionList) (a : AreSectionsOf I S) where
  load_at : (s : ℕ) → s < count_of S → slice_index (loads_of I S) s ≡ load I (start_of S s)
  load_at s lt = at S.sections s lt ∙ (ap (load_of I) (a.live s lt) ∙ sym (load_is I (start_of S s)))
    where
      at : (xs : List Section) (s : ℕ) → s < length xs →
          slice_index (map (λ (x : Section). load_of I x.members) xs) s ≡ load_of I
          (slice_index_or xs s no_section).members
      at [] s lt = absurd (omega arith)
      at (x ∷ xs) zero lt = refl
      at (x ∷ xs) (suc s) lt = at xs s (omega arith)

  -- no moment has more than the greatest of the sections
  at_most : (M : ℕ) → ((s : ℕ) → s < count_of S → slice_index (loads_of I S) s ≤ M) → (t : ℕ) → load I t ≤ M
  at_most M h t = elim (nil_or_not (live_at I t)) [
    | inl e ↦ (let z : load I t ≡ 0 = load_is I t ∙ ap (sum_by (λ b. (buffer I b).size)) e in omega arith)
    | inr r ↦ (
        let q = from_live I t r.0 r.1 in
        let w = a.together t r.0 q.0 q.1 in
        let k : load I t ≤ load I (start_of S w.0) = load_grows I t (start_of S w.0)
        (λ b bn l. (from_live I (start_of S w.0) b (rw (a.live w.0 w.1) at (w.2 b bn l))).1) in
        let m = h w.0 w.1 in let e = load_at w.0 w.1 in
        omega arith)
  ]

  first_is_peak : (p : ℕ × ℕ) → IsFirstGreatest S (loads_of I S) (count_of S) p → IsPeak I p.0 × (p.1 ≡ load I p.0)
  first_is_peak p g = (
    record {
      not_empty = not_empty;
      most = λ s. let k = at_most p.1 g.most s in let z = is_load in
          omega arith;
      earliest = earliest;
    },
    is_load,
  )
    where
      is_load : p.1 ≡ load I p.0
      is_load = sym g.load ∙ (load_at g.place g.in_range ∙ ap (load I) g.start)

      no_member : I ≡ [] → (b : ℕ) → b < length I → ⊥
      no_member e b lt = let k : length I ≡ 0 = ap length e in omega arith

      not_empty : I ≢ []
      not_empty e = elim (nil_or_not (members_of S g.place)) [
        | inl n ↦ a.not_empty g.place g.in_range n
        | inr r ↦ no_member e r.0 (from_live I (start_of S g.place) r.0 (rw (a.live g.place g.in_range) at r.1)).0
      ]

      earliest : (s : ℕ) → s < p.0 → load I s < load I p.0
      earliest s lt = elim (below_or_from (load I s) (load I p.0)) [ inl q ↦ q | inr q ↦ absurd (late q) ]
        where
          late : load I p.0 ≤ load I s → ⊥
          late le = early (least_with I (load I p.0) s (let k = at_most p.1 g.most s in let z = is_load in omega arith))
            where
              early : (u : ℕ) × (u ≤ s) × (load I u ≡ load I p.0) × ((v : ℕ) → v < u → load I v ≢ load I p.0) → ⊥
              early r = found (a.peak r.0 is_peak)
                where
                  is_peak : IsPeak I r.0
                  is_peak = record {
                    not_empty = not_empty;
                    most = λ v. let k = at_most p.1 g.most v in let z = is_load in let e = r.2 in omega arith;
                    earliest = λ v vu. let k = at_most p.1 g.most v in let z = is_load in let e = r.2 in let n = r.3 v
                        vu in omega arith;
                  }

                  found : (w : ℕ) × (w < count_of S) × (start_of S w ≡ r.0) → ⊥
                  found w = elim (below_or_from w.0 g.place) [
                    | inl b ↦ (let k = g.first w.0 b in let e = load_at w.0 w.1 in let f : load I (start_of S w.0) ≡
                        load I r.0 = ap (load I) w.2 in let z = is_load in let d = r.2 in omega arith)
                    | inr b ↦ elim (below_or_from g.place w.0) [
                      | inl c ↦ (let k = a.rise g.place w.0 c w.1 in let e = w.2 in let f = g.start in let l = r.1 in
                          omega arith)
                      | inr c ↦ (
                          let e : w.0 ≡ g.place = omega arith in
                          let f : start_of S w.0 ≡ start_of S g.place = ap (start_of S) e in
                          let d = w.2 in let z = g.start in let l = r.1 in omega arith)
                    ]
                  ]

  pub is_peak : All IsBuffer I → (peak : Option (ℕ × ℕ)) → IsGreatestOf S (loads_of I S) (count_of S) peak →
      IsPeakOf I peak
  is_peak sound (Some p) g = first_is_peak p g
  is_peak sound None none = empty I sound (λ b bn l. let w = a.together l.0 b bn l.1 in let k = w.1 in absurd
      (omega arith))
