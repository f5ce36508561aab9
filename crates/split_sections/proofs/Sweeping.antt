-- Going over the buffers by rising lower, each buffer's part begins at its lower or where the part of the buffer
-- before it begins.
use Rattle.std.proofs.Common.{◌≡◌, ℕ, ◌+◌, ◌-◌, ◌<◌, ◌≤◌, ◌⊎◌, inl, inr, true, false, List, length, max, slice_index_or, sym, ap, ◌∙◌, subst, arith}
use Rattle.dsa_terms.specs.Buffers.{Instance, buffer}
use Rattle.dsa_terms.specs.Parts.{is_cut}
use Rattle.dsa_search_laws.specs.PartsByTime.{last_cut, start_of}
use Rattle.dsa_terms.proofs.Places.{place_of}
use Rattle.dsa_terms.proofs.NumberTests.{below_or_from, below_or_last}
use Rattle.dsa_model.specs.Lists.{pair_at}
use Rattle.split_sections.specs.Sweep.{AreByLower, BeginsAt, lower_entry}
use Rattle.split_sections.proofs.Cuts.{cut_from, last_at_cut, last_stays, not_cut}

-- what is known of the part that begins at `first` once the places before i have been gone over
pub record IsReaching (I : Instance) (order : List (ℕ × ℕ)) (first i reach : ℕ) : Type 0 where
  pub started : first < i
  pub same : (k : ℕ) → first ≤ k → k < i → start_of I (pair_at order k).1 ≡ (pair_at order first).0
  pub over : (k : ℕ) → first ≤ k → k < i → (buffer I (pair_at order k).1).upper ≤ reach
  pub reached : (k : ℕ) × (first ≤ k) × (k < i) × ((buffer I (pair_at order k).1).upper ≡ reach)

-- nothing before reaches past its lower: that is a cut
pub cut_here : (I : Instance) (order : List (ℕ × ℕ)) (i : ℕ) → AreByLower I order → BeginsAt I order i →
    i < length order → is_cut I (pair_at order i).0 ≡ true
cut_here I order i a h lt = cut_from I (pair_at order i).0 outside
  where
    outside : (b : ℕ) → b < length I → (buffer I b).lower < (pair_at order i).0 →
        (buffer I b).upper ≤ (pair_at order i).0
    outside b bn low = at_place (place_of order (lower_entry I b) (0, 0) (a.complete b bn))
      where
        at_place : (k : ℕ) × (k < length order) × (slice_index_or order k (0, 0) ≡ lower_entry I b) →
            (buffer I b).upper ≤ (pair_at order i).0
        at_place r = go (below_or_from r.0 i)
          where
            at_number : (pair_at order r.0).1 ≡ b
            at_number = ap (λ (e : ℕ × ℕ). e.1) r.2

            at_lower : (pair_at order r.0).0 ≡ (buffer I b).lower
            at_lower = ap (λ (e : ℕ × ℕ). e.0) r.2

            go : (r.0 < i) ⊎ (i ≤ r.0) → (buffer I b).upper ≤ (pair_at order i).0
            go (inl before) =
                let k : (buffer I (pair_at order r.0).1).upper ≤ (pair_at order i).0 = h r.0 before in
                let f : (buffer I (pair_at order r.0).1).upper ≡ (buffer I b).upper = ap (λ b. (buffer I b).upper)
                at_number in
                omega arith
            go (inr after) =
                let k : (pair_at order i).0 ≤ (pair_at order r.0).0 = a.sorted i r.0 (0, 0) after r.1 in
                let f = at_lower in
                absurd (omega arith)

-- so its part begins there
begins_here : (I : Instance) (order : List (ℕ × ℕ)) (i : ℕ) → AreByLower I order → BeginsAt I order i →
    i < length order → (pair_at order i).0 ≡ start_of I (pair_at order i).1
unfolding start_of
begins_here I order i a h lt = sym (last_at_cut I (pair_at order i).0 (cut_here I order i a h lt))
    ∙ ap (last_cut I) (a.each i (0, 0) lt).lower

-- one before reaches past its lower: it is of the part of the one before it
pub goes_on : (I : Instance) (order : List (ℕ × ℕ)) (first i reach : ℕ) → AreByLower I order →
    IsReaching I order first i reach → i < length order → (pair_at order i).0 < reach →
    start_of I (pair_at order i).1 ≡ (pair_at order first).0
unfolding start_of
goes_on I order first i reach a s lt past =
    same (buffer I (pair_at order (i - 1)).1).lower (buffer I (pair_at order i).1).lower rises none
    ∙ s.same (i - 1) (let z = s.started in omega arith) (let z = s.started in omega arith)
  where
    top : ℕ
    top = s.reached.0

    top_in : top < i
    top_in = s.reached.2

    own : (k : ℕ) → k < length order → (pair_at order k).0 ≡ (buffer I (pair_at order k).1).lower
    own k kn = (a.each k (0, 0) kn).lower

    rises : (buffer I (pair_at order (i - 1)).1).lower ≤ (buffer I (pair_at order i).1).lower
    rises =
        let k : (pair_at order (i - 1)).0 ≤ (pair_at order i).0 = a.sorted (i - 1) i (0, 0) (omega arith) lt in
        let e = own (i - 1) (let z = top_in in omega arith) in let f = own i lt in omega arith

    none : (u : ℕ) → (buffer I (pair_at order (i - 1)).1).lower < u → u ≤ (buffer I (pair_at order i).1).lower →
        is_cut I u ≡ false
    none u low high = not_cut I u (pair_at order s.reached.0).1
        (a.each s.reached.0 (0, 0) (let z = top_in in omega arith)).in_range
        (let k : (pair_at order s.reached.0).0 ≤ (pair_at order (i - 1)).0 = a.sorted s.reached.0 (i - 1) (0, 0)
        (let z = top_in in omega arith) (omega arith) in
        let e = own (i - 1) (let z = top_in in omega arith) in
        let f = own s.reached.0 (let z = top_in in omega arith) in omega arith)
        (let z = s.reached.3 in let f = own i lt in omega arith)

    same : (s t : ℕ) → s ≤ t → ((u : ℕ) → s < u → u ≤ t → is_cut I u ≡ false) → last_cut I t ≡ last_cut I s
    same s t le h =
        let e : s + (t - s) ≡ t = omega arith in
        let k : last_cut I (s + (t - s)) ≡ last_cut I s = last_stays I s (t - s)
        (λ u low high. h u low (omega arith)) in
        rw e at k

-- the first of a part
pub reaching_first : (I : Instance) (order : List (ℕ × ℕ)) (first i reach : ℕ) → AreByLower I order →
    first < length order → BeginsAt I order first → i ≡ first + 1 → (buffer I (pair_at order first).1).upper ≡ reach →
    IsReaching I order first i reach
reaching_first I order first i reach a lt h e up = record {
  started = omega arith;
  same = λ k le kn. subst (λ (k : ℕ). start_of I (pair_at order k).1 ≡ (pair_at order first).0) (is_leader k le kn)
      (sym (begins_here I order first a h lt));
  over = λ k le kn. let z = ap (λ k. (buffer I (pair_at order k).1).upper) (is_leader k le kn) in omega arith;
  reached = (first, omega arith, omega arith, up);
}
  where
    is_leader : (k : ℕ) → first ≤ k → k < i → first ≡ k
    is_leader k le kn = omega arith

-- one more of the part
pub reaching_more : (I : Instance) (order : List (ℕ × ℕ)) (first i reach top : ℕ) (e : ℕ × ℕ) → AreByLower I order →
    IsReaching I order first i reach → i < length order → e ≡ pair_at order i → e.0 < reach →
    top ≡ max (buffer I e.1).upper reach → IsReaching I order first (i + 1) top
reaching_more I order first i reach top e a s lt is past up = record {
  started = (let z = s.started in omega arith);
  same = λ k le kn. elim (below_or_last k i kn) [
    | inl h ↦ s.same k le h
    | inr h ↦ subst (λ (k : ℕ). start_of I (pair_at order k).1 ≡ (pair_at order first).0) (sym h)
        (goes_on I order first i reach a s lt (let z = ap (λ (e : ℕ × ℕ). e.0) is in omega arith))
  ];
  over = λ k le kn. elim (below_or_last k i kn) [
    | inl h ↦ (let z = s.over k le h in omega arith)
    | inr h ↦ (let z = ap (λ k. (buffer I (pair_at order k).1).upper) h in let u = own in omega arith)
  ];
  reached = highest (below_or_from reach (buffer I (pair_at order i).1).upper);
}
  where
    own : (buffer I e.1).upper ≡ (buffer I (pair_at order i).1).upper
    own = ap (λ (e : ℕ × ℕ). (buffer I e.1).upper) is

    highest : (reach < (buffer I (pair_at order i).1).upper) ⊎ ((buffer I (pair_at order i).1).upper ≤ reach) →
        (k : ℕ) × (first ≤ k) × (k < i + 1) × ((buffer I (pair_at order k).1).upper ≡ top)
    highest (inl more) = (i, (let z = s.started in omega arith), omega arith, (let u = own in omega arith))
    highest (inr less) = (
      s.reached.0,
      s.reached.1,
      (let z = s.reached.2 in omega arith),
      (let z = s.reached.3 in let u = own in omega arith),
    )
