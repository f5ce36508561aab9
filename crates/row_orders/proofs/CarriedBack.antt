-- Offsets that are carried back from an order, and the laws of these.
use Rattle.std.proofs.Common.{◌≡◌, ℕ, ◌+◌, ◌<◌, ◌≤◌, ◌↔◌, ◌⊎◌, inl, inr, List, length, map, slice_index, slice_set, replicate, sym, ap, ◌∙◌, arith}
use Rattle.std.proofs.lemmas.List.{get_or-map, get_or-set_other, get_or-set_same, length-map, length-replicate, length-set}
use Rattle.std.proofs.lemmas.List.FromFn.{fill_by_all, get_or-map-range_with_len, length-map-range_with_len}
use Rattle.dsa_terms.specs.Buffers.{Instance, buffer}
use Rattle.dsa_terms.specs.Layouts.{IsFeasible, IsInfeasible, IsLayout}
use Rattle.dsa_terms.specs.Plans.{layout_height}
use Rattle.dsa_terms.proofs.NumberTests.{below_or_last}
use Rattle.dsa_model.specs.Chosen.{some_of}
use Rattle.dsa_model.proofs.Chosen.{chosen_at}
use Rattle.first_fit.specs.Rules.{IsOrderOf}
use Rattle.row_orders.specs.Carried.{HasEachOnce, carried_back, place_in}
use Rattle.row_orders.proofs.Moved.{AreMoved, moved_height, moved_layout}
use Rattle.row_orders.proofs.Once.{at_place, once_of, place_at, places_differ}

-- ---- what is carried back
pub carried_count : (order offsets : List ℕ) → length (carried_back order offsets) ≡ length order
unfolding carried_back
carried_count order offsets = length-map-range_with_len (λ b. slice_index offsets (place_in order b)) 0 (length order)

pub carried_at : (order offsets : List ℕ) (b : ℕ) → b < length order →
    slice_index (carried_back order offsets) b ≡ slice_index offsets (place_in order b)
unfolding carried_back
carried_at order offsets b lt =
    get_or-map-range_with_len (λ b. slice_index offsets (place_in order b)) 0 (length order) b b 0 lt (omega arith)

-- ---- from the instance to the order, and back
some_count : (I : Instance) (order : List ℕ) → length (some_of I order) ≡ length order
some_count I order = length-map order (buffer I)

into_order : (I : Instance) (order old new : List ℕ) → IsOrderOf I order → length new ≡ length order →
    ((i : ℕ) → i < length order → slice_index old (slice_index order i) ≡ slice_index new i) →
    AreMoved I (some_of I order) (slice_index order) old new
into_order I order old new o count moved = record {
  count = count ∙ sym (some_count I order);
  there = λ i lt. o.in_range i 0 (of_order lt);
  differ = λ i j li lj ne. places_differ order i j (once_of I order o) (of_order li) (of_order lj) ne;
  alike = λ i lt. sym (chosen_at I order i (of_order lt));
  moved = λ i lt. moved i (of_order lt);
}
  where
    of_order : {i : ℕ} → i < length (some_of I order) → i < length order
    of_order lt = rw (some_count I order) at lt

out_of_order : (I : Instance) (order offsets : List ℕ) → IsOrderOf I order →
    AreMoved (some_of I order) I (place_in order) offsets (carried_back order offsets)
out_of_order I order offsets o = record {
  count = carried_count order offsets ∙ o.count;
  there = λ b lt. rw (some_count I order) (at b lt).0;
  differ = λ b c lb lc ne e. ne (sym (at b lb).1 ∙ (ap (slice_index order) e ∙ (at c lc).1));
  alike = λ b lt. chosen_at I order (place_in order b) (at b lt).0 ∙ ap (buffer I) (at b lt).1;
  moved = λ b lt. sym (carried_at order offsets b (rw o.count lt));
}
  where
    at : (b : ℕ) → b < length I → (place_in order b < length order) × (slice_index order (place_in order b) ≡ b)
    at b lt = at_place order b (once_of I order o) (rw o.count lt)

-- ---- the laws
pub layout_back : (I : Instance) (order offsets : List ℕ) (C : ℕ) → IsOrderOf I order →
    IsLayout (some_of I order) C offsets → IsLayout I C (carried_back order offsets)
layout_back I order offsets C o l =
    moved_layout (some_of I order) I (place_in order) C offsets (carried_back order offsets)
    (out_of_order I order offsets o) l

layout_forth : (I : Instance) (order offsets : List ℕ) (C : ℕ) → IsOrderOf I order → IsLayout I C offsets →
    IsLayout (some_of I order) C (map (slice_index offsets) order)
layout_forth I order offsets C o l =
    moved_layout I (some_of I order) (slice_index order) C offsets (map (slice_index offsets) order)
    (into_order I order offsets (map (slice_index offsets) order) o (length-map order (slice_index offsets))
    (λ i lt. sym (get_or-map (slice_index offsets) order i 0 0 lt))) l

pub same_height : (I : Instance) (order offsets : List ℕ) → IsOrderOf I order → length offsets ≡ length I →
    layout_height I (carried_back order offsets) ≡ layout_height (some_of I order) offsets
same_height I order offsets o count =
    let a = moved_height (some_of I order) I (place_in order) offsets (carried_back order offsets)
    (out_of_order I order offsets o) in
    let b = moved_height I (some_of I order) (slice_index order) (carried_back order offsets) offsets
    (into_order I order (carried_back order offsets) offsets o (count ∙ sym o.count) there) in
    omega arith
  where
    there : (i : ℕ) → i < length order →
        slice_index (carried_back order offsets) (slice_index order i) ≡ slice_index offsets i
    there i lt = carried_at order offsets (slice_index order i) (rw o.count (o.in_range i 0 lt))
        ∙ ap (slice_index offsets) (place_at order i (once_of I order o) lt)

pub feasible_alike : (I : Instance) (order : List ℕ) (C : ℕ) → IsOrderOf I order →
    IsFeasible (some_of I order) C ↔ IsFeasible I C
feasible_alike I order C o = (
  λ f. (carried_back order f.0, layout_back I order f.0 C o f.1),
  λ f. (map (slice_index f.0) order, layout_forth I order f.0 C o f.1),
)

pub infeasible_alike : (I : Instance) (order : List ℕ) (C : ℕ) → IsOrderOf I order →
    IsInfeasible (some_of I order) C ↔ IsInfeasible I C
infeasible_alike I order C o = (
  λ none offsets l. none (map (slice_index offsets) order) (layout_forth I order offsets C o l),
  λ none offsets l. none (carried_back order offsets) (layout_back I order offsets C o l),
)

-- ---- carrying them back, place after place
-- the offsets at the first n places stand at the numbers that the order has there
pub record AreCarried (order offsets back : List ℕ) (n : ℕ) : Type 0 where
  pub count : length back ≡ length order
  pub each : (k : ℕ) → k < n → slice_index back (slice_index order k) ≡ slice_index offsets k

pub carried_none : (order offsets back : List ℕ) (n : ℕ) → n ≡ length order → back ≡ replicate n 0 →
    AreCarried order offsets back 0
carried_none order offsets back n e is = record {
  count = ap length is ∙ length-replicate n 0 ∙ e;
  each = λ k lt. absurd (omega arith);
}

pub carried_more : (order offsets back now : List ℕ) (n b x : ℕ) → HasEachOnce order → n < length order →
    b ≡ slice_index order n → x ≡ slice_index offsets n → now ≡ slice_set back b x →
    AreCarried order offsets back n → AreCarried order offsets now (n + 1)
carried_more order offsets back now n b x once lt at own is h = rw (is, at, own) record {
  count = length-set back (slice_index order n) (slice_index offsets n) ∙ h.count;
  each = λ k less. go k (below_or_last k n less);
}
  where
    set : List ℕ
    set = slice_set back (slice_index order n) (slice_index offsets n)

    within : slice_index order n < length back
    within = rw h.count (once.in_range n 0 lt)

    go : (k : ℕ) → (k < n) ⊎ (k ≡ n) → slice_index set (slice_index order k) ≡ slice_index offsets k
    go k (inl l) =
        let ne = places_differ order k n once (omega arith) lt (λ q. omega arith) in
        get_or-set_other back (slice_index order n) (slice_index order k) (slice_index offsets n) 0 ne ∙ h.each k l
    go k (inr q) = rw q (get_or-set_same back (slice_index order n) (slice_index offsets n) 0 within)

pub carried_all : (order offsets back : List ℕ) (n : ℕ) → HasEachOnce order → length order ≤ n →
    AreCarried order offsets back n → back ≡ carried_back order offsets
unfolding carried_back
carried_all order offsets back n once le h =
    fill_by_all (λ b. slice_index offsets (place_in order b)) back (length order) 0 h.count (λ b lt.
    let r = at_place order b once lt in
    let k = h.each (place_in order b) (let z = r.0 in omega arith) in
    rw r.1 at k)
