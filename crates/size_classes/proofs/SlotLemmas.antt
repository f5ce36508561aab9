-- Interval colouring: members that have one slot share no moment, and no slot is past the members that are live at one
-- moment.
use Rattle.std.proofs.Common.{◌≡◌, ◌≢◌, ℕ, suc, ◌+◌, ◌<◌, ◌≤◌, ◌⊎◌, inl, inr, Bool, true, false, cond, not, ◌&&◌, ◌==◌, List, [], ◌∷◌, ◌++◌, length, map, filter, nat_le, nat_lt, slice_index_or, refl, sym, ap, ◌∙◌, subst, arith, append_assoc}
use Rattle.std.proofs.lemmas.List.{append-nil, length-map, map-append}
use Rattle.std.proofs.lemmas.List.FromFn.{get_or-range_with_len, length-range_with_len}
use Rattle.std.proofs.lemmas.List.Sums.{fails_before_first, passes_at_first, prefix_len-le-length}
use Rattle.std.specs.List.{list_any}
use Rattle.dsa_terms.specs.Buffers.{Buffer, Instance, buffer, is_live, is_within, IsInstance, IsLive, no_buffer}
use Rattle.dsa_terms.specs.Bounds.{moments}
use Rattle.dsa_terms.specs.Claims.{buffers_of, Entry, IsIn, number_of}
use Rattle.dsa_terms.specs.Logs.{greatest}
use Rattle.dsa_terms.specs.Sorts.{IsOrdered}
use Rattle.dsa_terms.specs.Orders.{rises_by}
use Rattle.dsa_terms.specs.Parts.{has, numbers}
use Rattle.dsa_terms.proofs.Lists.{from_append, has_in, in_has, into_filter, into_map, left_append, right_append, into_ordered_by, from_ordered_by}
use Rattle.dsa_terms.proofs.Moments.{both_true, lasts, live_at_or_after, live_before}
use Rattle.dsa_terms.proofs.NumberTests.{below_or_from, differ, equal, is_at_most, is_below, less, same}
use Rattle.dsa_terms.proofs.Places.{in_at}
use Rattle.dsa_terms.proofs.Ranges.{among}
use Rattle.dsa_search_laws.proofs.Logs.{in_greatest}
use Rattle.dsa_search_laws.proofs.Parts.{number_of-left, number_of-right}
use Rattle.size_classes.specs.Plain.{HasNoGaps}
use Rattle.size_classes.specs.Slots.{AreMembers, held, in_turn, least_free, live_among, most_live, slot_of, slotted, with_slot}
use Rattle.size_classes.proofs.TurnLemmas.{before_of, begins_no_later, first_of_filter, is_another, ordered_counts, ordered_is_ordered, pigeons, turn_is_order}

-- ---- the least free slot
free_is_few : (xs : List ℕ) → least_free xs ≤ length xs
unfolding least_free
free_is_few xs =
    let k = prefix_len-le-length (λ s. not (not (has s xs))) (numbers (length xs)) in
    let e = length-range_with_len 0 (length xs) in omega arith

pub less_are_held : (xs : List ℕ) (k : ℕ) → k < least_free xs → IsIn k xs
unfolding least_free
less_are_held xs k lt =
    let f = fails_before_first (λ s. not (has s xs)) (numbers (length xs)) k 0 lt in
    let e : slice_index_or (numbers (length xs)) k 0 ≡ 0 + k =
    get_or-range_with_len 0 (length xs) k 0 (let s = free_is_few xs in few s) in
    has_in k xs (not_false (has k xs) (ap (λ j. not (has j xs)) (sym (e ∙ zero_plus k)) ∙ f))
  where
    few : least_free xs ≤ length xs → k < length xs
    few s = omega arith

    zero_plus : (k : ℕ) → 0 + k ≡ k
    zero_plus k = omega arith

    not_false : (b : Bool) → not b ≡ false → b ≡ true
    not_false true h = refl
    not_false false h = absurd cc

pub free_is_free : (xs : List ℕ) → IsIn (least_free xs) xs → ⊥
unfolding least_free
free_is_free xs i = elim (below_or_from (least_free xs) (length xs)) [
  | inl lt ↦ inside lt
  | inr le ↦ past le
]
  where
    zero_plus : (k : ℕ) → 0 + k ≡ k
    zero_plus k = omega arith

    inside : least_free xs < length xs → ⊥
    inside lt =
        let e = length-range_with_len 0 (length xs) in
        let f = passes_at_first (λ s. not (has s xs)) (numbers (length xs)) 0 (omega arith) in
        let at : slice_index_or (numbers (length xs)) (least_free xs) 0 ≡ 0 + least_free xs =
        get_or-range_with_len 0 (length xs) (least_free xs) 0 lt in
        let g : not (has (least_free xs) xs) ≡ true =
        ap (λ j. not (has j xs)) (sym (at ∙ zero_plus (least_free xs))) ∙ f in
        let h : has (least_free xs) xs ≡ true = in_has (least_free xs) xs i in
        absurd (let k : not true ≡ true = ap not (sym h) ∙ g in cc)

    past : length xs ≤ least_free xs → ⊥
    past le =
        let p = pigeons (suc (least_free xs)) xs (λ k lt. each k (cases k (least_free xs) lt)) in omega arith
      where
        cases : (k n : ℕ) → k < suc n → (k < n) ⊎ (k ≡ n)
        cases k n lt = grind arith

        each : (k : ℕ) → (k < least_free xs) ⊎ (k ≡ least_free xs) → IsIn k xs
        each k (inl lt) = less_are_held xs k lt
        each k (inr e) = subst (λ (j : ℕ). IsIn j xs) (sym e) i

-- ---- entries
entry_of_number : (es : List Entry) (b : ℕ) → IsIn b (buffers_of es) → IsIn (b, number_of es b) es
entry_of_number [] b i = absurd i
entry_of_number (e ∷ es) b i = go (entry_of_number es b) (e.0 == b) refl i
  where
    go : (IsIn b (buffers_of es) → IsIn (b, number_of es b) es) → (t : Bool) → (e.0 == b) ≡ t →
        IsIn b (buffers_of (e ∷ es)) → IsIn (b, cond t e.1 (number_of es b)) (e ∷ es)
    go ih true q j = inl (ap (λ x. (x, e.1)) (sym (equal e.0 b q)))
    go ih false q (inl k) = absurd (differ e.0 b q (sym k))
    go ih false q (inr k) = inr (ih k)

-- ---- what is held
pub held_has : (I : Instance) (b c : ℕ) (es : List Entry) → IsIn c (buffers_of es) →
    (buffer I b).lower < (buffer I c).upper →
    IsIn (number_of es c) (held I b es)
unfolding held
held_has I b c es i lt =
    into_map (λ (e : Entry). e.1) (filter (λ e. nat_lt (buffer I b).lower (buffer I e.0).upper) es) (c, number_of es c)
    (into_filter (λ e. nat_lt (buffer I b).lower (buffer I e.0).upper) es (c, number_of es c) (entry_of_number es c i)
    (is_below (buffer I b).lower (buffer I c).upper lt))

fewer_pass : (p : Entry → Bool) (q : ℕ → Bool) (es : List Entry) →
    ((e : Entry) → IsIn e es → p e ≡ true → q e.0 ≡ true) →
    length (filter p es) ≤ length (filter q (buffers_of es))
fewer_pass p q [] h = omega arith
fewer_pass p q (e ∷ es) h = go (fewer_pass p q es (λ f i. h f (inr i))) (p e) (q e.0) refl refl
  where
    go : length (filter p es) ≤ length (filter q (buffers_of es)) → (s t : Bool) → p e ≡ s → q e.0 ≡ t →
        length (cond s (e ∷ filter p es) (filter p es))
        ≤ length (cond t (e.0 ∷ filter q (buffers_of es)) (filter q (buffers_of es)))
    go ih true true u v = omega arith
    go ih true false u v = absurd (let k : q e.0 ≡ true = h e (inl refl) u in cc)
    go ih false true u v = omega arith
    go ih false false u v = ih

live_from : (b : Buffer) (t : ℕ) → b.gaps ≡ [] → b.lower ≤ t → t < b.upper → IsLive b t
unfolding is_live
live_from b t g le lt =
    both_true (nat_le b.lower t && nat_lt t b.upper) (not (list_any (is_within t) b.gaps))
    (both_true (nat_le b.lower t) (nat_lt t b.upper) (is_at_most b.lower t le) (is_below t b.upper lt))
    (ap (λ gaps. not (list_any (is_within t) gaps)) g)

held_are_few : (I : Instance) (b : ℕ) (es : List Entry) →
    ((c : ℕ) → IsIn c (buffers_of es) → HasNoGaps I c × ((buffer I c).lower ≤ (buffer I b).lower)) →
    length (held I b es) ≤ length (filter (λ c. is_live (buffer I c) (buffer I b).lower) (buffers_of es))
unfolding held
held_are_few I b es h =
    let e = length-map (filter (λ e. nat_lt (buffer I b).lower (buffer I e.0).upper) es) (λ (e : Entry). e.1) in
    let k = fewer_pass (λ e. nat_lt (buffer I b).lower (buffer I e.0).upper)
    (λ c. is_live (buffer I c) (buffer I b).lower) es
    (λ e i p. let q = h e.0 (into_map (λ (e : Entry). e.0) es e i) in
    live_from (buffer I e.0) (buffer I b).lower q.0 q.1 (less (buffer I b).lower (buffer I e.0).upper p)) in omega arith

-- ---- one more slot
record IsColoured (I : Instance) (M : ℕ) (es : List Entry) : Type 0 where
  apart : (b c : ℕ) → IsIn b (buffers_of es) → IsIn c (buffers_of es) → b ≢ c → number_of es b ≡ number_of es c →
      ((buffer I b).upper ≤ (buffer I c).lower) ⊎ ((buffer I c).upper ≤ (buffer I b).lower)
  few : (b : ℕ) → IsIn b (buffers_of es) → number_of es b < M

-- what is known of each member
record IsReady (I : Instance) (M : ℕ) (order : List ℕ) : Type 0 where
  ordered : IsOrdered (rises_by (λ (b : Buffer). b.lower) I) order
  no_gaps : (b : ℕ) → IsIn b order → HasNoGaps I b
  lasting : (b : ℕ) → IsIn b order → (buffer I b).lower < (buffer I b).upper
  most : (b : ℕ) → IsIn b order → length (filter (λ c. is_live (buffer I c) (buffer I b).lower) order) ≤ M

colour_one : (I : Instance) (M : ℕ) (es : List Entry) (b : ℕ) (following : List ℕ) →
    IsReady I M (buffers_of es ++ b ∷ following) → IsColoured I M es → IsColoured I M (with_slot I es b)
colour_one I M es b following r h = record {
  apart = λ c d i j ne e. pair c d ne e (either c i) (either d j);
  few = λ c i. one c (either c i);
}
  where
    slot : ℕ
    slot = least_free (held I b es)

    earlier : (c : ℕ) → IsIn c (buffers_of es) → rises_by (λ (b : Buffer). b.lower) I c b ≡ true
    earlier c i = before_of (rises_by (λ (b : Buffer). b.lower) I) (buffers_of es) following b c r.ordered i

    known : (c : ℕ) → IsIn c (buffers_of es) → IsIn c (buffers_of es ++ b ∷ following)
    known c i = left_append (buffers_of es) (b ∷ following) c i

    own : IsIn b (buffers_of es ++ b ∷ following)
    own = right_append (buffers_of es) (b ∷ following) b (inl refl)

    fresh : IsIn b (buffers_of es) → ⊥
    fresh i = is_another I b b (earlier b i) refl

    either : (c : ℕ) → IsIn c (buffers_of (with_slot I es b)) → IsIn c (buffers_of es) ⊎ (c ≡ b)
    either c i =
        let j : IsIn c (buffers_of es ++ b ∷ []) = subst (λ (xs : List ℕ). IsIn c xs)
        (map-append (λ (e : Entry). e.0) es ((b, slot) ∷ [])) i in
        elim (from_append (buffers_of es) (b ∷ []) c j) [
          | inl k ↦ inl k
          | inr k ↦ elim k [ inl e ↦ inr e | inr z ↦ absurd z ]
        ]

    old : (c : ℕ) → IsIn c (buffers_of es) → number_of (with_slot I es b) c ≡ number_of es c
    old c i = number_of-left es ((b, slot) ∷ []) c i

    new : number_of (with_slot I es b) b ≡ slot
    new = number_of-right es ((b, slot) ∷ []) b fresh ∙ rw (same b b refl) refl

    -- an earlier one with the same slot has ended
    ended : (c : ℕ) → IsIn c (buffers_of es) → number_of es c ≡ slot → (buffer I c).upper ≤ (buffer I b).lower
    ended c i e = elim (below_or_from (buffer I b).lower (buffer I c).upper) [
      | inl lt ↦ absurd (free_is_free (held I b es)
          (subst (λ (s : ℕ). IsIn s (held I b es)) e (held_has I b c es i lt)))
      | inr le ↦ le
    ]

    pair : (c d : ℕ) → c ≢ d → number_of (with_slot I es b) c ≡ number_of (with_slot I es b) d →
        IsIn c (buffers_of es) ⊎ (c ≡ b) → IsIn d (buffers_of es) ⊎ (d ≡ b) →
        ((buffer I c).upper ≤ (buffer I d).lower) ⊎ ((buffer I d).upper ≤ (buffer I c).lower)
    pair c d ne e (inl i) (inl j) = h.apart c d i j ne (sym (old c i) ∙ e ∙ old d j)
    pair c d ne e (inl i) (inr q) =
        inl (subst (λ (x : ℕ). (buffer I c).upper ≤ (buffer I x).lower) (sym q)
        (ended c i (sym (old c i) ∙ e ∙ ap (number_of (with_slot I es b)) q ∙ new)))
    pair c d ne e (inr p) (inl j) =
        inr (subst (λ (x : ℕ). (buffer I d).upper ≤ (buffer I x).lower) (sym p)
        (ended d j (sym (old d j) ∙ sym e ∙ ap (number_of (with_slot I es b)) p ∙ new)))
    pair c d ne e (inr p) (inr q) = absurd (ne (p ∙ sym q))

    slot_is_few : slot < M
    slot_is_few =
        let a = free_is_few (held I b es) in
        let c = held_are_few I b es (λ c i. (r.no_gaps c (known c i), begins_no_later I c b (earlier c i))) in
        let d = first_of_filter (λ c. is_live (buffer I c) (buffer I b).lower) (buffers_of es) following b
        (live_from (buffer I b) (buffer I b).lower (r.no_gaps b own) (omega arith) (r.lasting b own)) in
        let m = r.most b own in omega arith

    one : (c : ℕ) → IsIn c (buffers_of es) ⊎ (c ≡ b) → number_of (with_slot I es b) c < M
    one c (inl i) = rw (old c i) (h.few c i)
    one c (inr q) = rw (q, new) slot_is_few

all_coloured : (I : Instance) (M : ℕ) (order following : List ℕ) (es : List Entry) →
    order ≡ buffers_of es ++ following →
    IsReady I M order → IsColoured I M es →
    IsColoured I M (slotted I following es) × (buffers_of (slotted I following es) ≡ order)
all_coloured I M order [] es e r h = (h, sym (e ∙ append-nil (buffers_of es)))
all_coloured I M order (b ∷ bs) es e r h =
    all_coloured I M order bs (with_slot I es b) (e ∙ grown) r
    (colour_one I M es b bs (subst (λ (xs : List ℕ). IsReady I M xs) e r) h)
  where
    grown : buffers_of es ++ b ∷ bs ≡ buffers_of (with_slot I es b) ++ bs
    grown =
        sym (append_assoc (buffers_of es) (b ∷ []) bs)
        ∙ ap (λ xs. xs ++ bs) (sym (map-append (λ (e : Entry). e.0) es ((b, least_free (held I b es)) ∷ [])))

-- ---- the slots of members
moment : (I : Instance) (b : ℕ) → IsInstance I → b < length I → IsIn (buffer I b).lower (moments I)
unfolding moments buffer
moment I b s lt =
    let k = in_greatest (λ (b : Buffer). b.upper) I (slice_index_or I b no_buffer) (in_at I b no_buffer lt) in
    let l = lasts I b s lt in
    among (greatest (map (λ (b : Buffer). b.upper) I)) (slice_index_or I b no_buffer).lower (omega arith)

live_under_most : (I : Instance) (members : List ℕ) (b : ℕ) → IsInstance I → b < length I →
    length (live_among I members (buffer I b).lower) ≤ most_live I members
unfolding most_live
live_under_most I members b s lt =
    in_greatest (λ t. length (live_among I members t)) (moments I) (buffer I b).lower (moment I b s lt)

ready : (I : Instance) (members : List ℕ) → IsInstance I → AreMembers I members →
    IsReady I (most_live I members) (in_turn I members)
unfolding live_among
ready I members s m = record {
  ordered = ordered_is_ordered (rises_by (λ (b : Buffer). b.lower) I) members (turn_is_order I) m.rises;
  no_gaps = λ b i. (m.each b (back b i)).1;
  lasting = λ b i. lasts I b s (m.each b (back b i)).0;
  most = λ b i. let k = live_under_most I members b s (m.each b (back b i)).0 in
      let e = ordered_counts (λ c. is_live (buffer I c) (buffer I b).lower)
      (rises_by (λ (b : Buffer). b.lower) I) members in
      omega arith;
}
  where
    back : (b : ℕ) → IsIn b (in_turn I members) → IsIn b members
    back b i = from_ordered_by (rises_by (λ (b : Buffer). b.lower) I) members b i

no_entries : (I : Instance) (M : ℕ) → IsColoured I M []
no_entries I M = record { apart = λ b c i. absurd i; few = λ b i. absurd i }

coloured : (I : Instance) (members : List ℕ) → IsInstance I → AreMembers I members →
    IsColoured I (most_live I members) (slotted I (in_turn I members) [])
    × (buffers_of (slotted I (in_turn I members) []) ≡ in_turn I members)
coloured I members s m =
    all_coloured I (most_live I members) (in_turn I members) (in_turn I members) [] refl (ready I members s m)
    (no_entries I (most_live I members))

has_slot : (I : Instance) (members : List ℕ) (b : ℕ) → IsInstance I → AreMembers I members → IsIn b members →
    IsIn b (buffers_of (slotted I (in_turn I members) []))
has_slot I members b s m i =
    subst (λ (xs : List ℕ). IsIn b xs) (sym (coloured I members s m).1)
    (into_ordered_by (rises_by (λ (b : Buffer). b.lower) I) members b i)

pub one_slot_is_apart : (I : Instance) (members : List ℕ) (b c t : ℕ) → IsInstance I → AreMembers I members →
    IsIn b members → IsIn c members → b ≢ c → slot_of I members b ≡ slot_of I members c →
    IsLive (buffer I b) t → IsLive (buffer I c) t → ⊥
unfolding slot_of
one_slot_is_apart I members b c t s m i j ne e p q =
    let lb = live_at_or_after (buffer I b) t p in let ub = live_before (buffer I b) t p in
    let lc = live_at_or_after (buffer I c) t q in let uc = live_before (buffer I c) t q in
    elim ((coloured I members s m).0.apart b c (has_slot I members b s m i) (has_slot I members c s m j) ne e) [
      | inl k ↦ omega arith
      | inr k ↦ omega arith
    ]

pub slots_are_few : (I : Instance) (members : List ℕ) (b : ℕ) → IsInstance I → AreMembers I members → IsIn b members →
    slot_of I members b < most_live I members
unfolding slot_of
slots_are_few I members b s m i = (coloured I members s m).0.few b (has_slot I members b s m i)
