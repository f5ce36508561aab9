-- Buffers placed one after another: how high they reach, and the offsets that are kept of them.
use Rattle.std.proofs.Common.{◌≡◌, ◌^◌, ℕ, ◌+◌, ◌*◌, ◌<◌, ◌≤◌, inl, inr, Bool, true, false, cond, ◌==◌, max, List, [], ◌∷◌, length, map, filter, drop, slice_index, slice_index_or, slice_set, replicate, Option, Some, None, refl, sym, ap, ◌∙◌, subst, arith, add-one, drop-cons}
use Rattle.std.specs.List.{All}
use Rattle.std.specs.List.Sorted.{IsPermutation}
use Rattle.std.proofs.lemmas.List.{drop_all, get_or-replicate, get_or-set_same, get_or-set_other, length-replicate, length-set}
use Rattle.std.proofs.lemmas.List.Sorted.{IsPermutation-cons, IsPermutation-refl, IsPermutation-sym, IsPermutation-trans}
use Rattle.std.proofs.lemmas.List.FromFn.{fill_by_all, length-map-range_with_len}
use Rattle.dsa_terms.specs.Buffers.{Instance, IsInstance, buffer, do_share}
use Rattle.dsa_terms.specs.Claims.{Entry, IsIn, number_of}
use Rattle.dsa_terms.specs.Fits.{FitRule, Range, best_place, first_place, fitted, free_ranges, highest, holds, least_from, neighbours, start_in, tightest, top}
use Rattle.dsa_terms.specs.Layouts.{IsLayout}
use Rattle.dsa_terms.specs.Parts.{numbers, offsets_of}
use Rattle.dsa_terms.specs.Plans.{layout_height}
use Rattle.dsa_terms.proofs.Lists.{from_filter, from_map, greatest_under}
use Rattle.dsa_terms.proofs.Moments.{sound}
use Rattle.dsa_terms.proofs.Numbers.{next_is_below}
use Rattle.dsa_terms.proofs.NumberTests.{differ, equal}
use Rattle.dsa_terms.proofs.Places.{all_from_in, in_from_all, in_permutation}
use Rattle.dsa_terms.proofs.Ranges.{from_range}
use Rattle.dsa_start_laws.specs.Fitting.{HasEach, IsFreeRange}
use Rattle.dsa_search_laws.proofs.Search.{has_seat}
use Rattle.dsa_search_laws.proofs.Parts.{offset_at}
use Rattle.dsa_start_laws.proofs.Fits.{fitted_has, fitted_is_stacked, stacked_is_layout}
use Rattle.dsa_start_laws.proofs.Tightest.{tightest_is_in}
use Rattle.dsa_start_laws.proofs.Places.{IsClearRule, best_is_clear, first_is_clear, first_is_least, from_is_above, from_is_multiple, holds_is, under_highest}
use Rattle.dsa_start_laws.proofs.Ranges.{free_ranges_exactly}
use Rattle.dsa_model.specs.Buffer.{IsBuffer, buffer_limit}
use Rattle.dsa_model.proofs.Instances.{sound_buffer}
use Rattle.first_fit.specs.Rules.{IsOrderOf, rule_of}
use Rattle.first_fit.specs.Seats.{AreInOrder, AreSeats, IsSeat, seat_of}
use Rattle.first_fit.specs.declared.seats.Seat.{Seat}
use Rattle.first_fit.specs.declared.fits.Fit.{Fit}
use Rattle.first_fit.specs.declared.fits.Fit.TheVariants.{Best, First}

-- how much one more buffer can add to the height
abbrev pub rise : ℕ
rise = 2 ^ 40 + 2 ^ 32

-- how high so many buffers can reach, even where nothing but their lowest lifts the first of them
abbrev pub most_high : ℕ → ℕ
most_high k = (k + 1) * rise

-- the rule puts a buffer no higher than just above all the placed and its lowest
abbrev pub IsLowRule : Instance → FitRule → Type 0
IsLowRule I rule = (b : ℕ) (placed : List Entry) →
    rule I b placed < max (highest I placed) (buffer I b).lowest + (buffer I b).alignment

from_is_low : (I : Instance) (b x : ℕ) → IsInstance I →
    least_from I b x < max x (buffer I b).lowest + (buffer I b).alignment
unfolding least_from
from_is_low I b x s = next_is_below (max x (buffer I b).lowest) (buffer I b).alignment (sound I b s).1

pub first_is_low : (I : Instance) → IsInstance I → IsLowRule I first_place
first_is_low I s b placed =
    let n = from_is_above I b (highest I placed) in
    let k = first_is_least I b placed (least_from I b (highest I placed)) s (record {
      aligned = from_is_multiple I b (highest I placed) s;
      above = n.1;
      apart = λ e i. inr (let u = under_highest I placed e i in let m = n.0 in omega arith);
    }) in
    let l = from_is_low I b (highest I placed) s in
    omega arith

pub best_is_low : (I : Instance) → IsInstance I → IsLowRule I best_place
unfolding best_place
best_is_low I s b placed = go (tightest (filter (holds I b) (free_ranges I placed))) refl
  where
    go : (o : Option Range) → tightest (filter (holds I b) (free_ranges I placed)) ≡ o →
        start_in I b placed o < max (highest I placed) (buffer I b).lowest + (buffer I b).alignment
    go None e = from_is_low I b (highest I placed) s
    go (Some r) e =
        let q = from_filter (holds I b) (free_ranges I placed) r
        (tightest_is_in (filter (holds I b) (free_ranges I placed)) r e) in
        let h = holds_is I b r q.1 in
        let f : IsFreeRange I placed r = (free_ranges_exactly I placed r s).0 q.0 in
        let u = f.is_open.under in
        let p = sound I b s in
        let q = p.0 in
        let a = p.1 in
        omega arith

pub rule_is_clear : (I : Instance) (rule : Fit) → IsInstance I → IsClearRule I (rule_of rule)
rule_is_clear I First s = first_is_clear I s
rule_is_clear I Best s = best_is_clear I s

pub rule_is_low : (I : Instance) (rule : Fit) → IsInstance I → IsLowRule I (rule_of rule)
rule_is_low I First s = first_is_low I s
rule_is_low I Best s = best_is_low I s

-- ---- how high the placed reach
highest_of_neighbours : (I : Instance) (b : ℕ) (placed : List Entry) (m : ℕ) →
    ((e : Entry) → IsIn e placed → top I e ≤ m) → highest I (neighbours I b placed) ≤ m
unfolding highest neighbours
highest_of_neighbours I b placed m h = greatest_under (map (top I) others) m (λ x i.
    let r = from_map (top I) others x i in
    let q = from_filter (λ (e : Entry). do_share (buffer I b) (buffer I e.0)) placed r.0 r.1 in
    let k = h r.0 q.0 in let z = r.2 in omega arith)
  where
    others : List Entry
    others = filter (λ (e : Entry). do_share (buffer I b) (buffer I e.0)) placed

pub placed_top : (I : Instance) (rule : FitRule) (b k : ℕ) (placed : List Entry) → IsLowRule I rule →
    IsBuffer (buffer I b) →
    ((e : Entry) → IsIn e placed → top I e ≤ most_high k) →
    top I (b, rule I b (neighbours I b placed)) ≤ most_high (k + 1)
unfolding top
placed_top I rule b k placed low x h =
    let a = low b (neighbours I b placed) in
    let m = highest_of_neighbours I b placed (most_high k) h in
    let s = x.within_size in let n = x.within_alignment in let l = x.within_lowest in
    omega arith

pub fitted_tops : (I : Instance) (rule : FitRule) (order : List ℕ) (k : ℕ) (placed : List Entry) → IsLowRule I rule →
    ((b : ℕ) → IsIn b order → IsBuffer (buffer I b)) → ((e : Entry) → IsIn e placed → top I e ≤ most_high k) →
    (e : Entry) → IsIn e (fitted rule I order placed) → top I e ≤ most_high (k + length order)
fitted_tops I rule [] k placed low x h e i = let z = h e i in omega arith
fitted_tops I rule (b ∷ bs) k placed low x h e i =
    let z = fitted_tops I rule bs (k + 1) ((b, rule I b (neighbours I b placed)) ∷ placed) low (λ c j. x c (inr j)) tops
    e i in
    omega arith
  where
    tops : (f : Entry) → IsIn f ((b, rule I b (neighbours I b placed)) ∷ placed) → top I f ≤ most_high (k + 1)
    tops f (inl q) = rw q (placed_top I rule b k placed low (x b (inl refl)) h)
    tops f (inr j) = let z = h f j in omega arith

pub fitted_height : (I : Instance) (rule : FitRule) (order : List ℕ) → IsLowRule I rule → All IsBuffer I →
    IsOrderOf I order →
    layout_height I (offsets_of I (fitted rule I order [])) ≤ most_high (length order)
unfolding layout_height top
fitted_height I rule order low all o = greatest_under (map (λ b. slice_index offsets b + (buffer I b).size)
    (numbers (length I)))
    (most_high (length order)) (λ x i.
    let r = from_map (λ b. slice_index offsets b + (buffer I b).size) (numbers (length I)) x i in
    let lt : r.0 < length I = let z = (from_range (length I) 0 r.0 r.1).1 in omega arith in
    let z = fitted_tops I rule order 0 [] low (λ b j. sound_buffer I b all
    (in_from_all (λ b. b < length I) order o.in_range b j)) (λ e j. absurd j)
    (r.0, number_of placed r.0) (has_seat placed r.0 (fitted_has I rule order [] r.0 (o.each r.0 lt))) in
    let e = offset_at I placed r.0 lt in let q = r.2 in omega arith)
  where
    placed : List Entry
    placed = fitted rule I order []

    offsets : List ℕ
    offsets = offsets_of I (fitted rule I order [])

-- ---- the layout
pub fitted_is_layout : (I : Instance) (rule : FitRule) (order : List ℕ) → IsClearRule I rule → HasEach I order →
    IsLayout I (layout_height I (offsets_of I (fitted rule I order []))) (offsets_of I (fitted rule I order []))
fitted_is_layout I rule order clear each =
    stacked_is_layout I (fitted rule I order []) (fitted_is_stacked I rule clear order [] tt)
    (λ b lt. fitted_has I rule order [] b (each b lt))

-- ---- going along the order
-- what is known once the first k of the order have their seats
pub record IsFitting (I : Instance) (rule : FitRule) (order : List ℕ) (k : ℕ) (seats : List Seat)
    (offsets : List ℕ) : Type 0 where
  pub placed : List Entry
  pub left : fitted rule I order [] ≡ fitted rule I (drop k order) placed
  pub kept : offsets ≡ offsets_of I placed
  pub seated : IsPermutation (map (seat_of I) placed) seats
  pub in_order : AreInOrder seats
  pub in_range : (e : Entry) → IsIn e placed → e.0 < length I
  pub tops : (e : Entry) → IsIn e placed → top I e ≤ most_high k

pub fitting_none : (I : Instance) (rule : FitRule) (order : List ℕ) (n : ℕ) (seats : List Seat) (offsets : List ℕ) →
    n ≡ length I → offsets ≡ replicate n 0 → seats ≡ [] → IsFitting I rule order 0 seats offsets
fitting_none I rule order n seats offsets e m none = rw none (record {
  placed = [];
  left = refl;
  kept = rw (m, e) (fill_by_all (number_of []) (replicate (length I) 0) (length I) 0 (length-replicate (length I) 0)
      (λ k lt. get_or-replicate (length I) k 0 0 lt));
  seated = IsPermutation-refl [];
  in_order = λ i j d le lt. absurd (omega arith);
  in_range = λ e i. absurd i;
  tops = λ e i. absurd i;
})

pub are_seats : (I : Instance) (rule : FitRule) (order : List ℕ) (k : ℕ) (seats : List Seat) (offsets : List ℕ) →
    IsFitting I rule order k seats offsets → k ≤ buffer_limit → AreSeats I seats
are_seats I rule order k seats offsets h le = record { each = all_from_in (IsSeat I) seats each; in_order = h.in_order }
  where
    each : (s : Seat) → IsIn s seats → IsSeat I s
    each s i =
        let r = from_map (seat_of I) h.placed s (in_permutation seats (map (seat_of I) h.placed) s
        (IsPermutation-sym (map (seat_of I) h.placed) seats h.seated) i) in
        rw r.2 (record {
          in_range = h.in_range r.0 r.1;
          limit = (let z = h.tops r.0 r.1 in omega arith);
        })

-- the last one is found first
set_is : (I : Instance) (placed : List Entry) (b x : ℕ) → b < length I →
    slice_set (offsets_of I placed) b x ≡ offsets_of I ((b, x) ∷ placed)
set_is I placed b x lt = fill_by_all (number_of ((b, x) ∷ placed)) (slice_set (offsets_of I placed) b x) (length I) 0
    (length-set (offsets_of I placed) b x ∙ length-map-range_with_len (number_of placed) 0 (length I))
    (λ k kn. at k kn (b == k) refl)
  where
    long : b < length (offsets_of I placed)
    long = let z = length-map-range_with_len (number_of placed) 0 (length I) in omega arith

    at : (k : ℕ) → k < length I → (t : Bool) → (b == k) ≡ t →
        slice_index_or (slice_set (offsets_of I placed) b x) k 0 ≡ cond t x (number_of placed k)
    at k kn true e = rw (← equal b k e) (get_or-set_same (offsets_of I placed) b x 0 long)
    at k kn false e = get_or-set_other (offsets_of I placed) b k x 0 (λ q. differ b k e (sym q))
        ∙ offset_at I placed k kn

-- there is an offset for each buffer
pub within_offsets : (I : Instance) (rule : FitRule) (order : List ℕ) (k : ℕ) (seats : List Seat) (offsets : List ℕ)
    (b n : ℕ) → IsFitting I rule order k seats offsets → b < length I → n ≡ length offsets → b < n
within_offsets I rule order k seats offsets b n h lt e =
    let z = length-map-range_with_len (number_of h.placed) 0 (length I) in
    let w = ap (λ (xs : List ℕ). length xs) h.kept in omega arith

pub seat_is : (I : Instance) (b x size : ℕ) → size ≡ (buffer I b).size →
    (let s : Seat = record { buffer = b; span = record { start = x; stop = x + size } } in s) ≡ seat_of I (b, x)
unfolding top
seat_is I b x size e = rw e refl

-- where the next one ends
pub next_top : (I : Instance) (rule : FitRule) (order : List ℕ) (k : ℕ) (seats : List Seat) (offsets : List ℕ)
    (b x : ℕ) → IsLowRule I rule → All IsBuffer I → b < length I →
    ((placed : List Entry) → IsPermutation (map (seat_of I) placed) seats → x ≡ rule I b (neighbours I b placed)) →
    IsFitting I rule order k seats offsets → x + (buffer I b).size ≤ most_high (k + 1)
unfolding top
next_top I rule order k seats offsets b x low all bn at h = rw (at h.placed h.seated)
    (placed_top I rule b k h.placed low (sound_buffer I b all bn) h.tops)

pub fitting_more : (I : Instance) (rule : FitRule) (order : List ℕ) (k : ℕ) (seats more : List Seat)
    (offsets now : List ℕ) (b d x : ℕ) (seat : Seat) → IsLowRule I rule → All IsBuffer I → IsOrderOf I order →
    k < length order → b ≡ slice_index_or order k d →
    ((placed : List Entry) → IsPermutation (map (seat_of I) placed) seats → x ≡ rule I b (neighbours I b placed)) →
    seat ≡ seat_of I (b, x) → IsPermutation (seat ∷ seats) more → AreInOrder more → now ≡ slice_set offsets b x →
    IsFitting I rule order k seats offsets → IsFitting I rule order (k + 1) more now
fitting_more I rule order k seats more offsets now b d x seat low all o lt is at its moved up set h = record {
  placed = (b, x) ∷ h.placed;
  left = h.left ∙ (ap (λ (bs : List ℕ). fitted rule I bs h.placed) (drop-cons order k d lt)
      ∙ rw (← is, add-one k, at h.placed h.seated) refl);
  kept = set ∙ rw h.kept (set_is I h.placed b x bn);
  seated = IsPermutation-trans (seat_of I (b, x) ∷ map (seat_of I) h.placed) (seat_of I (b, x) ∷ seats) more
      (IsPermutation-cons (seat_of I (b, x)) (map (seat_of I) h.placed) seats h.seated)
      (subst (λ (s : Seat). IsPermutation (s ∷ seats) more) its moved);
  in_order = up;
  in_range = in_range;
  tops = tops;
}
  where
    bn : b < length I
    bn = let z = o.in_range k d lt in omega arith

    in_range : (e : Entry) → IsIn e ((b, x) ∷ h.placed) → e.0 < length I
    in_range e (inl q) = rw q bn
    in_range e (inr i) = h.in_range e i

    tops : (e : Entry) → IsIn e ((b, x) ∷ h.placed) → top I e ≤ most_high (k + 1)
    tops e (inl q) = rw (q, at h.placed h.seated) (placed_top I rule b k h.placed low (sound_buffer I b all bn) h.tops)
    tops e (inr i) = let z = h.tops e i in omega arith

pub fitting_done : (I : Instance) (rule : FitRule) (order : List ℕ) (k : ℕ) (seats : List Seat) (offsets : List ℕ) →
    length order ≤ k → IsFitting I rule order k seats offsets → offsets ≡ offsets_of I (fitted rule I order [])
fitting_done I rule order k seats offsets le h =
    h.kept ∙ ap (offsets_of I) (sym (h.left ∙ rw (drop_all k order le) refl))

pub fitting_layout : (I : Instance) (rule : FitRule) (order offsets : List ℕ) → IsClearRule I rule → IsOrderOf I order →
    offsets ≡ offsets_of I (fitted rule I order []) → IsLayout I (layout_height I offsets) offsets
fitting_layout I rule order offsets clear o e = rw e (fitted_is_layout I rule order clear o.each)

pub fitting_limit : (I : Instance) (rule : FitRule) (order offsets : List ℕ) → IsLowRule I rule → All IsBuffer I →
    IsOrderOf I order →
    length I ≤ buffer_limit → offsets ≡ offsets_of I (fitted rule I order []) → layout_height I offsets < 2 ^ 54
fitting_limit I rule order offsets low all o le e = rw e (let z = fitted_height I rule order low all o in
    let c = o.count in omega arith)
