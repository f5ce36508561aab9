-- The parts are the runs of the order by lowers.
use Rattle.std.proofs.Common.{◌≡◌, ℕ, ◌+◌, ◌-◌, ◌<◌, ◌≤◌, ◌==◌, ◌↔◌, inl, inr, List, [], ◌∷◌, ◌++◌, length, map, slice_index_or, sym, ap, ◌∙◌, subst, arith}
use Rattle.std.specs.List.{All, between}
use Rattle.std.proofs.lemmas.List.{length_push, map_push}
use Rattle.std.proofs.lemmas.List.Edits.{get_or-between, length-between}
use Rattle.dsa_terms.specs.Buffers.{Instance, buffer}
use Rattle.dsa_terms.specs.Claims.{IsIn, Rises}
use Rattle.dsa_terms.specs.Parts.{numbers, parts}
use Rattle.dsa_terms.proofs.Lists.{from_append, from_filter, from_map, into_filter, into_map, left_append, right_append}
use Rattle.dsa_terms.proofs.NumberTests.{below_or_from, equal, same}
use Rattle.dsa_terms.proofs.Places.{in_at, in_from_all, place_of}
use Rattle.dsa_terms.proofs.Ranges.{rises-push, into_range, rises-filter_numbers, rises-range}
use Rattle.dsa_search_laws.specs.PartsByTime.{members, start_of}
use Rattle.dsa_search_laws.proofs.Cuts.{item, last_cut_is_greatest, last_cut_le}
use Rattle.dsa_search_laws.proofs.Rising.{rises_same}
use Rattle.split_sections.specs.PartList.{ArePartsKept}
use Rattle.dsa_model.specs.Buffer.{IsBuffer, buffer_limit}
use Rattle.dsa_model.specs.Lists.{pair_at}
use Rattle.split_sections.specs.Sweep.{AreByLower, BeginsAt, IsRun, lower_entry}
use Rattle.split_sections.proofs.Sweeping.{cut_here}
use Rattle.split_sections.proofs.Beginnings.{below, kept, part_starts, parts_are}

-- the buffer stands at a place from `first` to before `next`
abbrev Stands : List (ℕ × ℕ) → ℕ → ℕ → ℕ → Type 0
Stands order first next b = (k : ℕ) × (first ≤ k) × (k < next) × ((pair_at order k).1 ≡ b)

stands_from : (order : List (ℕ × ℕ)) (first next b : ℕ) → next ≤ length order →
    IsIn b (map (λ (e : ℕ × ℕ). e.1) (between first next order)) → Stands order first next b
stands_from order first next b le i =
    let r = from_map (λ (e : ℕ × ℕ). e.1) (between first next order) b i in
    let q = place_of (between first next order) r.0 (0, 0) r.1 in
    let n = length-between order first next le in
    let lt : first + q.0 < next = (let z = q.1 in omega arith) in (
      first + q.0,
      omega arith,
      lt,
      ap (λ (e : ℕ × ℕ). e.1) (sym (get_or-between order first next q.0 (0, 0) lt) ∙ q.2) ∙ sym r.2,
    )

stands_in : (order : List (ℕ × ℕ)) (first next b : ℕ) → next ≤ length order → Stands order first next b →
    IsIn b (map (λ (e : ℕ × ℕ). e.1) (between first next order))
stands_in order first next b le s = subst (λ (x : ℕ). IsIn x (map (λ (e : ℕ × ℕ). e.1) (between first next order))) s.3
    (into_map (λ (e : ℕ × ℕ). e.1) (between first next order) (pair_at order s.0) here)
  where
    n : length (between first next order) ≡ next - first
    n = length-between order first next le

    lt : s.0 - first < length (between first next order)
    lt = let z = s.1 in let y = s.2 in let m = n in omega arith

    back : first + (s.0 - first) ≡ s.0
    back = let z = s.1 in omega arith

    read : slice_index_or (between first next order) (s.0 - first) (0, 0) ≡ pair_at order s.0
    read = get_or-between order first next (s.0 - first) (0, 0) (let z = s.2 in let y = back in omega arith)
        ∙ ap (pair_at order) back

    here : IsIn (pair_at order s.0) (between first next order)
    here = subst (λ (e : ℕ × ℕ). IsIn e (between first next order)) read
        (in_at (between first next order) (s.0 - first) (0, 0) lt)

-- what is known of the parts once the places before `first` have been gone over
pub record ArePartsBelow (I : Instance) (order : List (ℕ × ℕ)) (first : ℕ) (ps : List (List ℕ)) : Type 0 where
  pub cuts : List ℕ
  pub rises : Rises cuts
  pub parts_of : ps ≡ map (members I) cuts
  pub some : (t : ℕ) → IsIn t cuts → (k : ℕ) × (k < first) × (start_of I (pair_at order k).1 ≡ t)
  pub all : (k : ℕ) → k < first → IsIn (start_of I (pair_at order k).1) cuts
  pub few : length ps ≤ first
  pub within : first ≤ length order
  pub begins : first < length order → BeginsAt I order first

-- a buffer's lifetime is not empty
lasts : (I : Instance) (b : ℕ) → All IsBuffer I → b < length I → (buffer I b).lower < (buffer I b).upper
lasts I b h lt = (in_from_all IsBuffer I h (buffer I b) (item I b lt)).sound.2

-- the parts of earlier places begin earlier
begins_later : (I : Instance) (order : List (ℕ × ℕ)) (i k : ℕ) → AreByLower I order → All IsBuffer I →
    BeginsAt I order i → k < i → i < length order → start_of I (pair_at order k).1 < (pair_at order i).0
unfolding start_of
begins_later I order i k a sound h lt len =
    let c = last_cut_le I (buffer I (pair_at order k).1).lower in
    let l = lasts I (pair_at order k).1 sound (a.each k (0, 0) (omega arith)).in_range in
    let u = h k lt in omega arith

-- the parts of the places from a beginning on begin there or later
begins_from : (I : Instance) (order : List (ℕ × ℕ)) (i k : ℕ) → AreByLower I order → BeginsAt I order i → i ≤ k →
    k < length order → (pair_at order i).0 ≤ start_of I (pair_at order k).1
unfolding start_of
begins_from I order i k a h le lt =
    let e = (a.each k (0, 0) lt).lower in
    let s : (pair_at order i).0 ≤ (pair_at order k).0 = a.sorted i k (0, 0) le lt in
    last_cut_is_greatest I (buffer I (pair_at order k).1).lower (pair_at order i).0
    (cut_here I order i a h (omega arith)) (omega arith)

-- a run has just the members of its part
run_members : (I : Instance) (order : List (ℕ × ℕ)) (first next : ℕ) (p : List ℕ) → AreByLower I order →
    All IsBuffer I → BeginsAt I order first → IsRun I order first next → Rises p →
    ((b : ℕ) → IsIn b p ↔ IsIn b (map (λ (e : ℕ × ℕ). e.1) (between first next order))) →
    p ≡ members I (pair_at order first).0
run_members I order first next p a sound h run r both = rises_same p (members I (pair_at order first).0) r
    (rises-filter_numbers (λ b. start_of I b == (pair_at order first).0) (numbers (length I))
    (rises-range (length I) 0))
    (λ b. (
      λ i. forth b (stands_from order first next b run.within ((both b).0 i)),
      λ i. (both b).1
          (stands_in order first next b run.within (back b i)),
    ))
  where
    forth : (b : ℕ) → Stands order first next b → IsIn b (members I (pair_at order first).0)
    forth b s = subst (λ (b : ℕ). IsIn b (members I (pair_at order first).0)) s.3
        (into_filter (λ b. start_of I b == (pair_at order first).0) (numbers (length I)) (pair_at order s.0).1
        (into_range (length I) 0 (pair_at order s.0).1 (omega arith)
        (let z = (a.each s.0 (0, 0) (let y = s.2 in let w = run.within in omega arith)).in_range in omega arith))
        (same (start_of I (pair_at order s.0).1) (pair_at order first).0 (run.same s.0 s.1 s.2)))

    back : (b : ℕ) → IsIn b (members I (pair_at order first).0) → Stands order first next b
    back b i =
        let q = from_filter (λ b. start_of I b == (pair_at order first).0) (numbers (length I)) b i in
        let r = place_of order (lower_entry I b) (0, 0) (a.complete b (below I b q.0)) in
        let e : (pair_at order r.0).1 ≡ b = ap (λ (e : ℕ × ℕ). e.1) r.2 in
        let t : start_of I (pair_at order r.0).1 ≡ (pair_at order first).0 =
        ap (start_of I) e ∙ equal (start_of I b) (pair_at order first).0 q.1 in
        (r.0, not_before r.0 t, not_after r.0 r.1 t, e)
      where
        not_before : (k : ℕ) → start_of I (pair_at order k).1 ≡ (pair_at order first).0 → first ≤ k
        not_before k t = elim (below_or_from k first) [
          | inl lt ↦ absurd (let z = begins_later I order first k a sound h lt
              (let y = run.some in let w = run.within in omega arith) in omega arith)
          | inr le ↦ le
        ]

        not_after : (k : ℕ) → k < length order → start_of I (pair_at order k).1 ≡ (pair_at order first).0 → k < next
        not_after k lt t = elim (below_or_from k next) [
          | inl lt ↦ lt
          | inr le ↦ absurd (past le (run.ended (omega arith)))
        ]
          where
            past : next ≤ k → BeginsAt I order next → ⊥
            past le g =
                let z = begins_from I order next k a g le lt in
                let y = begins_later I order next first a sound g run.some (omega arith) in
                let x = run.same first (omega arith) run.some in
                omega arith

-- the next run is one part more
pub one_part_more : (I : Instance) (order : List (ℕ × ℕ)) (first next : ℕ) (ps new : List (List ℕ)) (p : List ℕ) →
    AreByLower I order → All IsBuffer I → ArePartsBelow I order first ps → IsRun I order first next → Rises p →
    ((b : ℕ) → IsIn b p ↔ IsIn b (map (λ (e : ℕ × ℕ). e.1) (between first next order))) → new ≡ ps ++ p ∷ [] →
    ArePartsBelow I order next new
one_part_more I order first next ps new p a sound s run r both e = record {
  cuts = s.cuts ++ (pair_at order first).0 ∷ [];
  rises = rises-push s.cuts (pair_at order first).0 s.rises (λ t i. earlier t (s.some t i));
  parts_of = e ∙ (rw (s.parts_of, run_members I order first next p a sound here run r both)
      (sym (map_push (members I) s.cuts (pair_at order first).0)));
  some = λ t i. elim (from_append s.cuts ((pair_at order first).0 ∷ []) t i) [
    | inl j ↦ (let q = s.some t j in (q.0, (let z = q.1 in let y = run.some in omega arith), q.2))
    | inr j ↦ (first, run.some, run.same first (omega arith) run.some ∙ only t j)
  ];
  all = λ k lt. elim (below_or_from k first) [
    | inl h ↦ left_append s.cuts ((pair_at order first).0 ∷ []) (start_of I (pair_at order k).1) (s.all k h)
    | inr h ↦ right_append s.cuts ((pair_at order first).0 ∷ []) (start_of I (pair_at order k).1)
        (inl (run.same k h lt))
  ];
  few = (let z = s.few in let y = run.some in let w = ap length e in let v = length_push ps p in omega arith);
  within = run.within;
  begins = run.ended;
}
  where
    within : first < length order
    within = let y = run.some in let w = run.within in omega arith

    here : BeginsAt I order first
    here = s.begins within

    only : (t : ℕ) → IsIn t ((pair_at order first).0 ∷ []) → (pair_at order first).0 ≡ t
    only t (inl q) = sym q
    only t (inr q) = absurd q

    earlier : (t : ℕ) → (k : ℕ) × (k < first) × (start_of I (pair_at order k).1 ≡ t) → t < (pair_at order first).0
    earlier t q = rw (← q.2) (begins_later I order first q.0 a sound here q.1 within)

-- at the end of the order these are all the parts
pub all_parts : (I : Instance) (order : List (ℕ × ℕ)) (first : ℕ) (ps : List (List ℕ)) → AreByLower I order →
    ArePartsBelow I order first ps → length order ≤ first → ps ≡ parts I
unfolding part_starts
all_parts I order first ps a s le = s.parts_of
    ∙ parts_are I s.cuts s.rises (λ t. (λ i. forth t (s.some t i), λ i. back t i))
  where
    forth : (t : ℕ) → (k : ℕ) × (k < first) × (start_of I (pair_at order k).1 ≡ t) → IsIn t (part_starts I)
    forth t q = subst (λ (t : ℕ). IsIn t (part_starts I)) q.2
        (into_map (start_of I) (numbers (length I)) (pair_at order q.0).1
        (into_range (length I) 0 (pair_at order q.0).1 (omega arith)
        (let z = (a.each q.0 (0, 0) (let y = q.1 in let w = s.within in omega arith)).in_range in omega arith)))

    back : (t : ℕ) → IsIn t (part_starts I) → IsIn t s.cuts
    back t i =
        let r = from_map (start_of I) (numbers (length I)) t i in
        let q = place_of order (lower_entry I r.0) (0, 0) (a.complete r.0 (below I r.0 r.1)) in
        let e : start_of I (pair_at order q.0).1 ≡ t = ap (λ (e : ℕ × ℕ). start_of I e.1) q.2 ∙ sym r.2 in
        subst (λ (t : ℕ). IsIn t s.cuts) e (s.all q.0 (let z = q.1 in omega arith))

pub all_kept : (I : Instance) (order : List (ℕ × ℕ)) (first : ℕ) (ps : List (List ℕ)) → AreByLower I order →
    ArePartsBelow I order first ps → length order ≤ first → length I ≤ buffer_limit → ArePartsKept ps
all_kept I order first ps a s le few = kept I ps (all_parts I order first ps a s le)
    (let z = s.few in let y = s.within in let w = a.count in omega arith)
