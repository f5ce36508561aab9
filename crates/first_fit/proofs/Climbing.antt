-- First-fit's way up past the seats, to the first range that has room.
use Rattle.std.proofs.Common.{◌≡◌, ◌^◌, ◌%◌, ℕ, ◌+◌, ◌<◌, ◌≤◌, ◌⊎◌, inl, inr, true, false, List, length, map, slice_index_or, sym, ap, ◌∙◌, subst, arith}
use Rattle.std.specs.List.Sorted.{IsPermutation}
use Rattle.dsa_terms.specs.Buffers.{Instance, IsInstance, buffer}
use Rattle.dsa_terms.specs.Claims.{Entry, IsIn}
use Rattle.dsa_terms.specs.Fits.{first_place, holds, least_from, neighbours, top}
use Rattle.dsa_terms.specs.Layouts.{IsApart}
use Rattle.dsa_terms.proofs.NumberTests.{above, below_or_from, below_or_last, not_at_most}
use Rattle.dsa_terms.proofs.Places.{in_at, place_of}
use Rattle.dsa_start_laws.specs.Fitting.{IsClear}
use Rattle.dsa_start_laws.proofs.Places.{first_is_clear, first_is_least, from_is_above, from_is_least, from_is_multiple, holds_is}
use Rattle.first_fit.specs.Seats.{AreSeats, seat_of}
use Rattle.first_fit.specs.declared.seats.Seat.{Seat}
use Rattle.first_fit.specs.declared.spans.Span.{Span}
use Rattle.first_fit.proofs.Spanning.{entry_of, no_seat, seat_in, shares}

-- from x on, so many addresses meet none of the span
abbrev pub IsBeside : ℕ → ℕ → Span → Type 0
IsBeside x size s = (x + size ≤ s.start) ⊎ (s.stop ≤ x)

-- b at x is aligned, at or above its lowest, and beside all seats that share a moment with it
pub record IsFree (I : Instance) (b : ℕ) (seats : List Seat) (x : ℕ) : Type 0 where
  pub aligned : x % (buffer I b).alignment ≡ 0
  pub above : (buffer I b).lowest ≤ x
  pub beside : (s : Seat) → IsIn s seats → shares I b s ≡ true → IsBeside x (buffer I b).size s.span

-- what is reached is past all of the first k that share a moment with b, and no higher than what is free
pub record IsClimbing (I : Instance) (b : ℕ) (seats : List Seat) (k reach : ℕ) : Type 0 where
  pub limit : reach ≤ 2 ^ 53
  pub past : (j : ℕ) → j < k → shares I b (slice_index_or seats j no_seat) ≡ true →
      (slice_index_or seats j no_seat).span.stop ≤ reach
  pub least : (y : ℕ) → IsFree I b seats y → reach ≤ y

pub climbing_none : (I : Instance) (b : ℕ) (seats : List Seat) → IsClimbing I b seats 0 0
climbing_none I b seats = record {
  limit = omega arith;
  past = λ j lt. absurd (omega arith);
  least = λ y f. omega arith;
}

-- up past one more
climbing_to : (I : Instance) (b : ℕ) (seats : List Seat) (k reach next : ℕ) → IsClimbing I b seats k reach →
    reach ≤ next → next ≤ 2 ^ 53 →
    (shares I b (slice_index_or seats k no_seat) ≡ true → (slice_index_or seats k no_seat).span.stop ≤ next) →
    ((y : ℕ) → IsFree I b seats y → next ≤ y) → IsClimbing I b seats (k + 1) next
climbing_to I b seats k reach next h up limit past least = record {
  limit = limit;
  past = λ j lt told. elim (below_or_last j k lt) [
    | inl less ↦ (let z = h.past j less told in omega arith)
    | inr e ↦ subst (λ (i : ℕ). (slice_index_or seats i no_seat).span.stop ≤ next) (sym e)
        (past (subst (λ (i : ℕ). shares I b (slice_index_or seats i no_seat) ≡ true) e told))
  ];
  least = least;
}

-- one that shares no moment
pub climbing_by : (I : Instance) (b : ℕ) (seats : List Seat) (k reach : ℕ) → IsClimbing I b seats k reach →
    shares I b (slice_index_or seats k no_seat) ≡ false → IsClimbing I b seats (k + 1) reach
climbing_by I b seats k reach h not = climbing_to I b seats k reach reach h (omega arith) h.limit
    (λ told. absurd (differ (sym told ∙ not))) h.least
  where
    differ : true ≡ false → ⊥
    differ e = cc

-- one that ends below what is reached
pub climbing_over : (I : Instance) (b : ℕ) (seats : List Seat) (k reach : ℕ) → IsClimbing I b seats k reach →
    (slice_index_or seats k no_seat).span.stop ≤ reach → IsClimbing I b seats (k + 1) reach
climbing_over I b seats k reach h le = climbing_to I b seats k reach reach h (omega arith) h.limit (λ _. le) h.least

-- one below which there is no room
pub climbing_past : (I : Instance) (b : ℕ) (seats : List Seat) (k reach : ℕ) → IsInstance I → AreSeats I seats →
    k < length seats → shares I b (slice_index_or seats k no_seat) ≡ true →
    holds I b (record { start = reach; stop = (slice_index_or seats k no_seat).span.start }) ≡ false →
    reach ≤ (slice_index_or seats k no_seat).span.stop → IsClimbing I b seats k reach →
    IsClimbing I b seats (k + 1) (slice_index_or seats k no_seat).span.stop
unfolding holds
climbing_past I b seats k reach s are lt told none up h =
    climbing_to I b seats k reach stop h up (are.each k no_seat lt).limit (λ _. omega arith)
    (λ y f. higher y (h.least y f) f (f.beside (slice_index_or seats k no_seat) (in_at seats k no_seat lt) told))
  where
    stop : ℕ
    stop = (slice_index_or seats k no_seat).span.stop

    higher : (y : ℕ) → reach ≤ y → IsFree I b seats y →
        IsBeside y (buffer I b).size (slice_index_or seats k no_seat).span →
        (slice_index_or seats k no_seat).span.stop ≤ y
    higher y le f (inl q) = absurd (let l = from_is_least I b reach y s le f.above f.aligned in
        let a = above (least_from I b reach + (buffer I b).size) (slice_index_or seats k no_seat).span.start none in
        omega arith)
    higher y le f (inr q) = q

-- beside all that are left: first-fit's place
pub climbed : (I : Instance) (b : ℕ) (placed : List Entry) (seats : List Seat) (k reach : ℕ) → IsInstance I →
    AreSeats I seats → IsPermutation (map (seat_of I) placed) seats → IsClimbing I b seats k reach →
    ((j : ℕ) → k ≤ j → j < length seats →
    least_from I b reach + (buffer I b).size ≤ (slice_index_or seats j no_seat).span.start) →
    least_from I b reach ≡ first_place I b (neighbours I b placed)
unfolding top
climbed I b placed seats k reach s are moved h left =
    both (least_from I b reach) (first_place I b (neighbours I b placed))
    (from_is_least I b reach (first_place I b (neighbours I b placed)) s
    (h.least (first_place I b (neighbours I b placed)) free) clear.above clear.aligned)
    (first_is_least I b (neighbours I b placed) (least_from I b reach) s (record {
      aligned = from_is_multiple I b reach s;
      above = (from_is_above I b reach).1;
      apart = apart;
    }))
  where
    clear : IsClear I b (neighbours I b placed) (first_place I b (neighbours I b placed))
    clear = first_is_clear I s b (neighbours I b placed)

    free : IsFree I b seats (first_place I b (neighbours I b placed))
    free = record { aligned = clear.aligned; above = clear.above; beside = beside }
      where
        beside : (t : Seat) → IsIn t seats → shares I b t ≡ true →
            IsBeside (first_place I b (neighbours I b placed)) (buffer I b).size t.span
        beside t i told = let q = entry_of I b placed seats moved t i told in
            subst (λ (t : Seat). IsBeside (first_place I b (neighbours I b placed)) (buffer I b).size t.span) (sym q.2)
            (clear.apart q.0 q.1)

    apart : (e : Entry) → IsIn e (neighbours I b placed) →
        IsApart (buffer I b) (least_from I b reach) (buffer I e.0) e.1
    apart e i = elim (below_or_from p.0 k) [
      | inl less ↦ inr (let z = h.past p.0 less (rw p.2 q.1) in let w = ap (λ (t : Seat). t.span.stop) p.2 in
          let m = (from_is_above I b reach).0 in omega arith)
      | inr from ↦ inl (let z = left p.0 from p.1 in let w = ap (λ (t : Seat). t.span.start) p.2 in omega arith)
    ]
      where
        q : IsIn (seat_of I e) seats × (shares I b (seat_of I e) ≡ true)
        q = seat_in I b placed seats moved e i

        p : (j : ℕ) × (j < length seats) × (slice_index_or seats j no_seat ≡ seat_of I e)
        p = place_of seats (seat_of I e) no_seat q.0

    both : (m n : ℕ) → m ≤ n → n ≤ m → m ≡ n
    both m n p q = omega arith

-- there is room below the next one, and so below all that are left
pub climbed_to_room : (I : Instance) (b : ℕ) (placed : List Entry) (seats : List Seat) (k reach : ℕ) → IsInstance I →
    AreSeats I seats → k < length seats →
    holds I b (record { start = reach; stop = (slice_index_or seats k no_seat).span.start }) ≡ true →
    IsClimbing I b seats k reach → IsPermutation (map (seat_of I) placed) seats →
    least_from I b reach ≡ first_place I b (neighbours I b placed)
climbed_to_room I b placed seats k reach s are lt room h moved = climbed I b placed seats k reach s are moved h
    (λ j from jn. let z = are.in_order k j no_seat from jn in
    let r = holds_is I b (record { start = reach; stop = (slice_index_or seats k no_seat).span.start }) room in
    omega arith)

-- none is left
pub climbed_past_all : (I : Instance) (b : ℕ) (placed : List Entry) (seats : List Seat) (k reach : ℕ) → IsInstance I →
    AreSeats I seats → length seats ≤ k → IsClimbing I b seats k reach → IsPermutation (map (seat_of I) placed) seats →
    least_from I b reach ≡ first_place I b (neighbours I b placed)
climbed_past_all I b placed seats k reach s are le h moved = climbed I b placed seats k reach s are moved h
    (λ j from jn. absurd (omega arith))

-- ---- a range that is too short
pub no_room : (I : Instance) (b start stop size : ℕ) → size ≡ (buffer I b).size → stop < start + size →
    false ≡ holds I b (record { start = start; stop = stop })
unfolding holds
no_room I b start stop size is short = sym (not_at_most (least_from I b start + (buffer I b).size) stop
    (let z = (from_is_above I b start).0 in omega arith))
