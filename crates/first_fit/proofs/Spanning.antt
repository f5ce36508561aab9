-- The seats that share a moment with a buffer, as the addresses that they take.
use Rattle.std.proofs.Common.{◌≡◌, ℕ, ◌+◌, ◌<◌, Bool, true, false, cond, List, ◌∷◌, length, map, filter, drop, slice_index_or, refl, ap, ◌∙◌, subst, arith, add-one, drop-cons}
use Rattle.std.specs.List.Sorted.{IsNonDecreasingBy, IsPermutation}
use Rattle.std.proofs.Math.ListN.{get_or-map}
use Rattle.std.proofs.lemmas.List.{length-map}
use Rattle.std.proofs.lemmas.List.Kept.{IsNonDecreasingBy-filter}
use Rattle.std.proofs.lemmas.List.Sorted.{IsPermutation-sym}
use Rattle.dsa_terms.specs.Buffers.{Instance, buffer, do_share}
use Rattle.dsa_terms.specs.Claims.{Entry, IsIn}
use Rattle.dsa_terms.specs.Fits.{neighbours, top}
use Rattle.dsa_terms.proofs.Lists.{from_filter, from_map, into_filter, into_map}
use Rattle.dsa_terms.proofs.Places.{any_default, in_permutation}
use Rattle.first_fit.specs.Seats.{AreInOrder, seat_of}
use Rattle.first_fit.specs.declared.seats.Seat.{Seat}
use Rattle.first_fit.specs.declared.spans.Span.{Span}

-- the addresses of a placed buffer
pub record IsSpanOf (I : Instance) (e : Entry) (s : Span) : Type 0 where
  pub start : s.start ≡ e.1
  pub stop : s.stop ≡ top I e

-- the addresses of each of the placed buffers and of no other, by rising start
pub record AreTaken (I : Instance) (placed : List Entry) (spans : List Span) : Type 0 where
  pub sorted : IsNonDecreasingBy (λ (s : Span). s.start) spans
  pub each : (s : Span) → IsIn s spans → (e : Entry) × IsIn e placed × IsSpanOf I e s
  pub all : (e : Entry) → IsIn e placed → (s : Span) × IsIn s spans × IsSpanOf I e s

abbrev pub no_span : Span
no_span = record { start = 0; stop = 0 }

abbrev pub no_seat : Seat
no_seat = record { buffer = 0; span = no_span }

-- it shares a moment with b
abbrev pub shares : Instance → ℕ → Seat → Bool
shares I b s = do_share (buffer I b) (buffer I s.buffer)

-- the addresses of those that do
abbrev pub spans_of : Instance → ℕ → List Seat → List Span
spans_of I b seats = map (λ (s : Seat). s.span) (filter (shares I b) seats)

sorted_spans : (seats : List Seat) → AreInOrder seats →
    IsNonDecreasingBy (λ (s : Span). s.start) (map (λ (s : Seat). s.span) seats)
sorted_spans seats up i j d le lt =
    let few : j < length seats = (let z = length-map seats (λ (s : Seat). s.span) in omega arith) in
    let k = up i j no_seat le few in
    let at = span_at d in
    rw (at i (omega arith), at j few) k
  where
    span_at : (d : Span) (k : ℕ) → k < length seats →
        slice_index_or (map (λ (s : Seat). s.span) seats) k d ≡ (slice_index_or seats k no_seat).span
    span_at d k lt =
        any_default (map (λ (s : Seat). s.span) seats) k d no_span
        (let z = length-map seats (λ (s : Seat). s.span) in omega arith)
        ∙ get_or-map (λ (s : Seat). s.span) seats k no_seat

-- ---- seats and placed buffers
pub entry_of : (I : Instance) (b : ℕ) (placed : List Entry) (seats : List Seat) →
    IsPermutation (map (seat_of I) placed) seats → (s : Seat) → IsIn s seats → shares I b s ≡ true →
    (e : Entry) × IsIn e (neighbours I b placed) × (s ≡ seat_of I e)
unfolding neighbours
entry_of I b placed seats moved s i told =
    let r = from_map (seat_of I) placed s
    (in_permutation seats (map (seat_of I) placed) s (IsPermutation-sym (map (seat_of I) placed) seats moved) i) in (
      r.0,
      into_filter (λ (e : Entry). do_share (buffer I b) (buffer I e.0)) placed r.0 r.1
          (subst (λ (s : Seat). shares I b s ≡ true) r.2 told),
      r.2,
    )

pub seat_in : (I : Instance) (b : ℕ) (placed : List Entry) (seats : List Seat) →
    IsPermutation (map (seat_of I) placed) seats → (e : Entry) → IsIn e (neighbours I b placed) →
    IsIn (seat_of I e) seats × (shares I b (seat_of I e) ≡ true)
unfolding neighbours
seat_in I b placed seats moved e i =
    let q = from_filter (λ (e : Entry). do_share (buffer I b) (buffer I e.0)) placed e i in (
      in_permutation (map (seat_of I) placed) seats (seat_of I e) moved (into_map (seat_of I) placed e q.0),
      q.1,
    )

-- the spans are what the placed ones take that share a moment with b
pub are_taken : (I : Instance) (b : ℕ) (placed : List Entry) (seats : List Seat) → AreInOrder seats →
    IsPermutation (map (seat_of I) placed) seats → AreTaken I (neighbours I b placed) (spans_of I b seats)
are_taken I b placed seats up moved = record {
  sorted = sorted_spans (filter (shares I b) seats)
      (IsNonDecreasingBy-filter (λ (s : Seat). s.span.start) (shares I b) seats up);
  each = λ s i. let r = from_map (λ (s : Seat). s.span) (filter (shares I b) seats) s i in
      let q = from_filter (shares I b) seats r.0 r.1 in
      let p = entry_of I b placed seats moved r.0 q.0 q.1 in (
        p.0,
        p.1,
        record {
          start = ap (λ (s : Span). s.start) r.2 ∙ ap (λ (s : Seat). s.span.start) p.2;
          stop = ap (λ (s : Span). s.stop) r.2 ∙ ap (λ (s : Seat). s.span.stop) p.2;
        },
      );
  all = λ e i. let q = seat_in I b placed seats moved e i in (
    (seat_of I e).span,
    into_map (λ (s : Seat). s.span) (filter (shares I b) seats) (seat_of I e)
        (into_filter (shares I b) seats (seat_of I e) q.0 q.1),
    record { start = refl; stop = refl },
  );
}

-- ---- the next seat
spans_next : (I : Instance) (b : ℕ) (seats : List Seat) (k : ℕ) (s : Seat) → k < length seats →
    s ≡ slice_index_or seats k no_seat →
    spans_of I b (drop k seats)
    ≡ map (λ (s : Seat). s.span) (cond (shares I b s) (s ∷ filter (shares I b) (drop (k + 1) seats))
    (filter (shares I b) (drop (k + 1) seats)))
spans_next I b seats k s lt is = ap (spans_of I b) rest
  where
    rest : drop k seats ≡ s ∷ drop (k + 1) seats
    rest = rw (is, add-one k) (drop-cons seats k no_seat lt)

pub shares_next : (I : Instance) (b : ℕ) (seats : List Seat) (k : ℕ) (s : Seat) → k < length seats →
    s ≡ slice_index_or seats k no_seat → shares I b s ≡ true →
    spans_of I b (drop k seats) ≡ s.span ∷ spans_of I b (drop (k + 1) seats)
shares_next I b seats k s lt is told = spans_next I b seats k s lt is
    ∙ ap (λ (c : Bool). map (λ (s : Seat). s.span) (cond c (s ∷ filter (shares I b) (drop (k + 1) seats))
    (filter (shares I b) (drop (k + 1) seats)))) told

pub shares_not : (I : Instance) (b : ℕ) (seats : List Seat) (k : ℕ) (s : Seat) → k < length seats →
    s ≡ slice_index_or seats k no_seat → shares I b s ≡ false →
    spans_of I b (drop k seats) ≡ spans_of I b (drop (k + 1) seats)
shares_not I b seats k s lt is not = spans_next I b seats k s lt is
    ∙ ap (λ (c : Bool). map (λ (s : Seat). s.span) (cond c (s ∷ filter (shares I b) (drop (k + 1) seats))
    (filter (shares I b) (drop (k + 1) seats)))) not
