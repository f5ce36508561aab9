-- Some of the buffers as an instance of their own, and layouts for fewer of them.
use Rattle.std.proofs.Common.{◌≡◌, ◌≢◌, ℕ, zero, suc, ◌+◌, ◌-◌, ◌<◌, ◌≤◌, ◌⊎◌, inl, inr, Bool, true, false, cond, not, ◌==◌, List, [], ◌∷◌, ◌++◌, length, map, slice_index, slice_index_or, refl, sym, ap, ◌∙◌, subst, arith}
use Rattle.std.proofs.lemmas.List.{get_or-map, length-map, map-id}
use Rattle.std.proofs.lemmas.List.FromFn.{map-range_with_len_more}
use Rattle.std.specs.List.{range_with_len}
use Rattle.dsa_terms.specs.Buffers.{Buffer, Instance, buffer, IsLive, no_buffer}
use Rattle.dsa_terms.specs.Claims.{IsIn, Rises}
use Rattle.dsa_terms.specs.Layouts.{IsFeasible, IsInfeasible, IsMultiple, IsApart}
use Rattle.dsa_terms.specs.Parts.{numbers}
use Rattle.dsa_terms.proofs.NumberTests.{equal, differ}
use Rattle.dsa_terms.proofs.Places.{in_at}
use Rattle.dsa_terms.proofs.Ranges.{among}
use Rattle.core_find.specs.Carried.{place_among}
use Rattle.core_find.specs.Cores.{AreAmong}
use Rattle.dsa_model.specs.Chosen.{some_of}

-- ---- the place of a number
pub at_place : (k : ℕ) (ms : List ℕ) → IsIn k ms →
    (place_among k ms < length ms) × (slice_index_or ms (place_among k ms) 0 ≡ k)
unfolding place_among
at_place k [] i = absurd i
at_place k (m ∷ ms) i = go (at_place k ms) (m == k) refl i
  where
    go : (IsIn k ms → (place_among k ms < length ms) × (slice_index_or ms (place_among k ms) 0 ≡ k)) → (b : Bool) →
        (m == k) ≡ b → IsIn k (m ∷ ms) →
        (cond (not b) (1 + place_among k ms) 0 < length (m ∷ ms))
        × (slice_index_or (m ∷ ms) (cond (not b) (1 + place_among k ms) 0) 0 ≡ k)
    go ih true e j = (omega arith, equal m k e)
    go ih false e (inl q) = absurd (differ m k e (sym q))
    go ih false e (inr j) =
        let r = ih j in
        let next : suc (place_among k ms) ≡ 1 + place_among k ms = omega arith in
        ((let lt = r.0 in omega arith), subst (λ i. slice_index_or (m ∷ ms) i 0 ≡ k) next r.1)

pub rises_at : (ks : List ℕ) (i j : ℕ) → Rises ks → i < j → j < length ks →
    slice_index_or ks i 0 < slice_index_or ks j 0
rises_at [] i j r lt within = absurd (omega arith)
rises_at (k ∷ ks) i zero r lt within = absurd (omega arith)
rises_at (k ∷ ks) zero (suc j) r lt within = r.0 (slice_index_or ks j 0) (in_at ks j 0 (omega arith))
rises_at (k ∷ ks) (suc i) (suc j) r lt within = rises_at ks i j r.1 (omega arith) (omega arith)

pub rises_apart : (ks : List ℕ) (i j : ℕ) → Rises ks → i < length ks → j < length ks → i ≢ j →
    slice_index_or ks i 0 ≢ slice_index_or ks j 0
rises_apart ks i j r li lj ne e = go (cases i j)
  where
    cases : (i j : ℕ) → (i < j) ⊎ ((j < i) ⊎ (i ≡ j))
    cases i j = grind arith

    go : (i < j) ⊎ ((j < i) ⊎ (i ≡ j)) → ⊥
    go (inl lt) = let k = rises_at ks i j r lt lj in omega arith
    go (inr (inl lt)) = let k = rises_at ks j i r lt li in omega arith
    go (inr (inr q)) = ne q

-- there are no more rising numbers than there is room for
pub rises_few : (n a : ℕ) (ks : List ℕ) → Rises ks → ((b : ℕ) → IsIn b ks → (a ≤ b) × (b < n)) → length ks ≤ n - a
rises_few n a [] r h = omega arith
rises_few n a (k ∷ ks) r h =
    let first = h k (inl refl) in
    let from = first.0 in
    let to = first.1 in
    let rest = rises_few n (k + 1) ks r.1 (λ b i. (let lt = r.0 b i in omega arith, (h b (inr i)).1)) in
    omega arith

pub numbers_next : (n : ℕ) → numbers (n + 1) ≡ numbers n ++ n ∷ []
numbers_next n =
    sym (map-id (numbers (n + 1))) ∙ map-range_with_len_more (λ k. k) 0 n n (omega arith)
    ∙ ap (λ ks. ks ++ n ∷ []) (map-id (numbers n))

-- ---- the buffer of a place among some
pub some_at : (I : Instance) (ms : List ℕ) (i : ℕ) → i < length ms →
    buffer (some_of I ms) i ≡ buffer I (slice_index_or ms i 0)
unfolding buffer
some_at I ms i lt = get_or-map (buffer I) ms i 0 no_buffer lt

pub some_in : (I : Instance) (ms : List ℕ) (k : ℕ) → IsIn k ms → buffer (some_of I ms) (place_among k ms) ≡ buffer I k
some_in I ms k i = let r = at_place k ms i in some_at I ms (place_among k ms) r.0 ∙ ap (buffer I) r.1

-- ---- fewer of them
chosen : List ℕ → List ℕ → List ℕ → List ℕ
chosen offsets ms ks = map (λ k. slice_index offsets (place_among k ms)) ks

chosen_at : (offsets ms ks : List ℕ) (i : ℕ) → i < length ks →
    slice_index (chosen offsets ms ks) i ≡ slice_index offsets (place_among (slice_index_or ks i 0) ms)
unfolding chosen
chosen_at offsets ms ks i lt = get_or-map (λ k. slice_index offsets (place_among k ms)) ks i 0 0 lt

pub fewer_fit : (I : Instance) (C : ℕ) (ks ms : List ℕ) → Rises ks → AreAmong ks ms → IsFeasible (some_of I ms) C →
    IsFeasible (some_of I ks) C
unfolding chosen
fewer_fit I C ks ms r h (offsets, l) = (
  chosen offsets ms ks,
  record {
    count = counted;
    aligned = λ i lt. aligned i (of_ks lt);
    above = λ i lt. above i (of_ks lt);
    within = λ i lt. within i (of_ks lt);
    apart = λ i j t li lj ne p q. apart i j t (of_ks li) (of_ks lj) ne p q;
  },
)
  where
    counted : length (chosen offsets ms ks) ≡ length (some_of I ks)
    counted = length-map ks (λ k. slice_index offsets (place_among k ms)) ∙ sym (length-map ks (buffer I))

    of_ks : {i : ℕ} → i < length (some_of I ks) → i < length ks
    of_ks lt = rw (length-map ks (buffer I)) at lt

    number : ℕ → ℕ
    number i = slice_index_or ks i 0

    seat : ℕ → ℕ
    seat i = place_among (number i) ms

    known : (i : ℕ) → i < length ks → IsIn (number i) ms
    known i lt = h (number i) (in_at ks i 0 lt)

    seated : (i : ℕ) → i < length ks → seat i < length (some_of I ms)
    seated i lt = rw (length-map ms (buffer I)) (at_place (number i) ms (known i lt)).0

    same_buffer : (i : ℕ) → i < length ks → buffer (some_of I ms) (seat i) ≡ buffer (some_of I ks) i
    same_buffer i lt = some_in I ms (number i) (known i lt) ∙ sym (some_at I ks i lt)

    same_offset : (i : ℕ) → i < length ks → slice_index offsets (seat i) ≡ slice_index (chosen offsets ms ks) i
    same_offset i lt = sym (chosen_at offsets ms ks i lt)

    aligned : (i : ℕ) → i < length ks →
        IsMultiple (slice_index (chosen offsets ms ks) i) (buffer (some_of I ks) i).alignment
    aligned i lt =
        let k = l.aligned (seat i) (seated i lt) in
        rw (same_buffer i lt, same_offset i lt) at k

    above : (i : ℕ) → i < length ks → (buffer (some_of I ks) i).lowest ≤ slice_index (chosen offsets ms ks) i
    above i lt =
        let k = l.above (seat i) (seated i lt) in
        rw (same_buffer i lt, same_offset i lt) at k

    within : (i : ℕ) → i < length ks →
        slice_index (chosen offsets ms ks) i + (buffer (some_of I ks) i).size ≤ C
    within i lt =
        let k = l.within (seat i) (seated i lt) in
        rw (same_buffer i lt, same_offset i lt) at k

    seats_differ : (i j : ℕ) → i < length ks → j < length ks → i ≢ j → seat i ≢ seat j
    seats_differ i j li lj ne e =
        rises_apart ks i j r li lj ne
        (sym (at_place (number i) ms (known i li)).1
        ∙ ap (λ p. slice_index_or ms p 0) e
        ∙ (at_place (number j) ms (known j lj)).1)

    apart : (i j t : ℕ) → i < length ks → j < length ks → i ≢ j →
        IsLive (buffer (some_of I ks) i) t → IsLive (buffer (some_of I ks) j) t →
        IsApart (buffer (some_of I ks) i) (slice_index (chosen offsets ms ks) i)
        (buffer (some_of I ks) j) (slice_index (chosen offsets ms ks) j)
    apart i j t li lj ne p q =
        let k = l.apart (seat i) (seat j) t (seated i li) (seated j lj) (seats_differ i j li lj ne)
        (rw (same_buffer i li) p) (rw (same_buffer j lj) q) in
        rw (same_buffer i li, same_buffer j lj, same_offset i li, same_offset j lj) at k

pub more_do_not_fit : (I : Instance) (C : ℕ) (ks ms : List ℕ) → Rises ks → AreAmong ks ms →
    IsInfeasible (some_of I ks) C → IsInfeasible (some_of I ms) C
more_do_not_fit I C ks ms r h none offsets l =
    let f = fewer_fit I C ks ms r h (offsets, l) in none f.0 f.1

-- ---- all of them
all_from : (J I : Instance) (a : ℕ) → ((i : ℕ) → i < length I → buffer J (a + i) ≡ buffer I i) →
    map (buffer J) (range_with_len a (length I)) ≡ I
unfolding buffer
all_from J [] a h = refl
all_from J (b ∷ I) a h =
    let first : slice_index_or J (a + 0) no_buffer ≡ b = h 0 (omega arith) in
    let here : slice_index_or J a no_buffer ≡ b = rw (plus_zero a) at first in
    rw here (ap (λ (xs : List Buffer). b ∷ xs) (all_from J I (a + 1)
    (λ i lt. rw (plus_one a i) (h (suc i) (omega arith)))))
  where
    plus_zero : (a : ℕ) → a + 0 ≡ a
    plus_zero a = omega arith

    plus_one : (a i : ℕ) → a + 1 + i ≡ a + suc i
    plus_one a i = omega arith

pub some_of_all : (I : Instance) → some_of I (numbers (length I)) ≡ I
some_of_all I = all_from I I 0 (λ i lt. ap (buffer I) (zero_plus i))
  where
    zero_plus : (i : ℕ) → 0 + i ≡ i
    zero_plus i = omega arith

pub all_do_not_fit : (I : Instance) (C : ℕ) (ks : List ℕ) → Rises ks → ((b : ℕ) → IsIn b ks → b < length I) →
    IsInfeasible (some_of I ks) C → IsInfeasible I C
all_do_not_fit I C ks r h none =
    subst (λ (J : Instance). IsInfeasible J C) (some_of_all I)
    (more_do_not_fit I C ks (numbers (length I)) r (λ b i. among (length I) b (h b i)) none)
