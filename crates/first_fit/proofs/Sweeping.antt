-- Best-fit's way up past the addresses, with the best range so far.
use Rattle.std.proofs.Common.{◌≡◌, ◌^◌, ℕ, ◌+◌, ◌-◌, ◌<◌, ◌≤◌, ◌⊎◌, ◌↔◌, inl, inr, Bool, true, false, cond, ◌==◌, ◌&&◌, ◌||◌, max, nat_lt, List, [], ◌∷◌, length, map, filter, drop, slice_index_or, Option, None, Some, IfSome, option_map, refl, sym, ap, ap₂, ◌∙◌, subst, arith}
use Rattle.std.proofs.lemmas.Bool.Decides.{nat_tests}
use Rattle.std.proofs.lemmas.List.{drop_all}
use Rattle.std.specs.List.Sorted.{IsPermutation}
use Rattle.dsa_terms.specs.Buffers.{Instance, IsInstance}
use Rattle.dsa_terms.specs.Claims.{Entry, IsIn}
use Rattle.dsa_terms.specs.Fits.{Range, best_place, free_ranges, highest, holds, is_tighter, least_from, neighbours, start_in, tightest, top}
use Rattle.dsa_terms.specs.Logs.{greatest}
use Rattle.dsa_terms.proofs.Lists.{from_filter, into_filter, from_map, none_or_some, greatest_under}
use Rattle.dsa_terms.proofs.NumberTests.{is_below, not_below}
use Rattle.dsa_search_laws.proofs.Logs.{in_greatest}
use Rattle.dsa_start_laws.proofs.Ranges.{free_ranges_exactly}
use Rattle.dsa_start_laws.proofs.Tightest.{none_tighter, not_along, some_tightest, tighter_of, tightest_is_in, tightest_next}
use Rattle.first_fit.specs.Free.{IsBelow, narrowed, narrower, range_of}
use Rattle.first_fit.specs.Seats.{AreSeats, seat_of}
use Rattle.first_fit.specs.declared.seats.Seat.{Seat}
use Rattle.first_fit.specs.declared.spans.Span.{Span}
use Rattle.first_fit.proofs.Gaps.{gaps, gaps_exactly}
use Rattle.first_fit.proofs.Spanning.{AreTaken, are_taken, no_seat, shares, shares_next, shares_not, spans_of}

-- ---- the tighter of two ranges, by numbers
-- the tighter of several, with the best so far
abbrev pub joined : Option Range → Option Range → Option Range
joined None o = o
joined (Some q) o = tighter_of q o

is : (l m a b : ℕ) → (nat_lt l m || ((l == m) && nat_lt a b)) ≡ true → (l < m) ⊎ ((l ≡ m) × (a < b))
is l m a b h = grind (arith, nat_tests)

is_not : (l m a b : ℕ) → (nat_lt l m || ((l == m) && nat_lt a b)) ≡ false → (m < l) ⊎ ((l ≡ m) × (b ≤ a))
is_not l m a b h = grind (arith, nat_tests)

pub so : (l m a b : ℕ) → (l < m) ⊎ ((l ≡ m) × (a < b)) → (nat_lt l m || ((l == m) && nat_lt a b)) ≡ true
so l m a b (inl q) = grind (arith, nat_tests)
so l m a b (inr q) = let x = q.0 in let y = q.1 in grind (arith, nat_tests)

pub so_not : (l m a b : ℕ) → (m < l) ⊎ ((l ≡ m) × (b ≤ a)) → (nat_lt l m || ((l == m) && nat_lt a b)) ≡ false
so_not l m a b (inl q) = grind (arith, nat_tests)
so_not l m a b (inr q) = let x = q.0 in let y = q.1 in grind (arith, nat_tests)

along : (q r s : Range) → is_tighter s r ≡ true → is_tighter r q ≡ true → is_tighter s q ≡ true
unfolding is_tighter
along q r s h k = so (s.stop - s.start) (q.stop - q.start) s.start q.start
    (go (is (s.stop - s.start) (r.stop - r.start) s.start r.start h)
    (is (r.stop - r.start) (q.stop - q.start) r.start q.start k))
  where
    go : (s.stop - s.start < r.stop - r.start) ⊎ ((s.stop - s.start ≡ r.stop - r.start) × (s.start < r.start)) →
        (r.stop - r.start < q.stop - q.start) ⊎ ((r.stop - r.start ≡ q.stop - q.start) × (r.start < q.start)) →
        (s.stop - s.start < q.stop - q.start) ⊎ ((s.stop - s.start ≡ q.stop - q.start) × (s.start < q.start))
    go (inl a) (inl b) = inl (omega arith)
    go (inl a) (inr b) = inl (omega arith)
    go (inr a) (inl b) = inl (omega arith)
    go (inr a) (inr b) = inr (omega arith, omega arith)

-- it does not matter in which order two are compared with a third
pub joined_next : (best : Option Range) (r : Range) (o : Option Range) →
    joined best (tighter_of r o) ≡ joined (narrower best r) o
joined_next None r o = refl
joined_next (Some q) r None = go (is_tighter r q)
  where
    go : (c : Bool) → cond c (Some r) (Some q) ≡ joined (cond c (Some r) (Some q)) None
    go true = refl
    go false = refl
joined_next (Some q) r (Some s) = go (is_tighter s r) refl (is_tighter r q) refl
  where
    go : (c : Bool) → is_tighter s r ≡ c → (d : Bool) → is_tighter r q ≡ d →
        tighter_of q (cond c (Some s) (Some r)) ≡ joined (cond d (Some r) (Some q)) (Some s)
    go true h true k = rw (along q r s h k, h) refl
    go true h false k = refl
    go false h true k = rw (k, h) refl
    go false h false k = rw (k, not_along q r s h k) refl

-- ---- which of the best so far and a higher one is kept
pub is_kept : (I : Instance) (b : ℕ) (q r : Span) (best : Option Span) → best ≡ Some q → holds I b (range_of r) ≡ true →
    q.start ≤ r.start → q.stop - q.start ≤ r.stop - r.start →
    Some (range_of q) ≡ narrowed I b (option_map range_of best) (range_of r)
unfolding is_tighter
is_kept I b q r best e h below short = rw (
  e,
  h,
  so_not (r.stop - r.start) (q.stop - q.start) r.start q.start
      (cases (r.stop - r.start) (q.stop - q.start) r.start q.start short below),
) refl
  where
    cases : (l m x y : ℕ) → m ≤ l → y ≤ x → (m < l) ⊎ ((l ≡ m) × (y ≤ x))
    cases l m x y p q = grind arith

pub is_taken : (I : Instance) (b : ℕ) (q r : Span) (best : Option Span) → best ≡ Some q →
    holds I b (range_of r) ≡ true →
    r.stop - r.start < q.stop - q.start → Some (range_of r) ≡ narrowed I b (option_map range_of best) (range_of r)
unfolding is_tighter
is_taken I b q r best e h short = rw (e, h, so (r.stop - r.start) (q.stop - q.start) r.start q.start (inl short)) refl

-- ---- the tightest hangs on the members alone
same_range : (r s : Range) → r.start < r.stop → s.start < s.stop → is_tighter r s ≡ false → is_tighter s r ≡ false →
    r ≡ s
unfolding is_tighter
same_range r s a b h k = build
    (both (r.stop - r.start) (s.stop - s.start) r.start s.start h k)
  where
    both : (l m x y : ℕ) → (nat_lt l m || ((l == m) && nat_lt x y)) ≡ false →
        (nat_lt m l || ((m == l) && nat_lt y x)) ≡ false →
        (l ≡ m) × (x ≡ y)
    both l m x y p q = go (is_not l m x y p) (is_not m l y x q)
      where
        go : (m < l) ⊎ ((l ≡ m) × (y ≤ x)) → (l < m) ⊎ ((m ≡ l) × (x ≤ y)) → (l ≡ m) × (x ≡ y)
        go (inl u) (inl v) = absurd (omega arith)
        go (inl u) (inr v) = absurd (omega arith)
        go (inr u) (inl v) = absurd (omega arith)
        go (inr u) (inr v) = (omega arith, omega arith)

    build : (r.stop - r.start ≡ s.stop - s.start) × (r.start ≡ s.start) → r ≡ s
    build p = ap₂ (λ (x y : ℕ). let r : Range = record { start = x; stop = y } in r) p.1
        (let z = p.0 in let w = p.1 in omega arith)

pub tightest_same : (rs ss : List Range) → ((r : Range) → IsIn r rs → r.start < r.stop) →
    ((r : Range) → IsIn r rs ↔ IsIn r ss) → tightest rs ≡ tightest ss
tightest_same rs ss some same = go (none_or_some (tightest rs)) (none_or_some (tightest ss))
  where
    go : (tightest rs ≡ None) ⊎ ((r : Range) × (tightest rs ≡ Some r)) →
        (tightest ss ≡ None) ⊎ ((s : Range) × (tightest ss ≡ Some s)) → tightest rs ≡ tightest ss
    go (inl h) (inl k) = h ∙ sym k
    go (inl h) (inr k) = absurd (some_tightest rs k.0 h ((same k.0).1 (tightest_is_in ss k.0 k.1)))
    go (inr h) (inl k) = absurd (some_tightest ss h.0 k ((same h.0).0 (tightest_is_in rs h.0 h.1)))
    go (inr h) (inr k) =
        let i = tightest_is_in rs h.0 h.1 in
        let j = (same k.0).1 (tightest_is_in ss k.0 k.1) in
        h.1 ∙ (ap (λ (r : Range). Some r) (same_range h.0 k.0 (some h.0 i) (some k.0 j)
        (none_tighter ss k.0 h.0 k.1 ((same h.0).0 i)) (none_tighter rs h.0 k.0 h.1 j)) ∙ sym k.1)

pub swept_is_free : (I : Instance) (b : ℕ) (placed : List Entry) (spans : List Span) → IsInstance I →
    AreTaken I placed spans →
    tightest (filter (holds I b) (gaps 0 spans)) ≡ tightest (filter (holds I b) (free_ranges I placed))
swept_is_free I b placed spans s t = tightest_same (filter (holds I b) (gaps 0 spans))
    (filter (holds I b) (free_ranges I placed))
    (λ r i. ((gaps_exactly I placed spans r s t).0 (from_filter (holds I b) (gaps 0 spans) r i).0).is_open.not_empty)
    (λ r. (
      (λ i. let q = from_filter (holds I b) (gaps 0 spans) r i in
          into_filter (holds I b) (free_ranges I placed) r ((free_ranges_exactly I placed r s).1
          ((gaps_exactly I placed spans r s t).0 q.0)) q.1),
      (λ i. let q = from_filter (holds I b) (free_ranges I placed) r i in
          into_filter (holds I b) (gaps 0 spans) r ((gaps_exactly I placed spans r s t).1
          ((free_ranges_exactly I placed r s).0 q.0)) q.1),
    ))

-- ---- the loop
-- what is known while some of the spans are left: the best so far is the tightest below what is reached
pub record IsSweeping (I : Instance) (b : ℕ) (spans left : List Span) (reach : ℕ) (best : Option Span) : Type 0 where
  pub limit : reach ≤ 2 ^ 53
  pub below : IfSome best (IsBelow reach)
  pub tight : tightest (filter (holds I b) (gaps 0 spans))
      ≡ joined (option_map range_of best) (tightest (filter (holds I b) (gaps reach left)))
  pub high : greatest (map (λ (s : Span). s.stop) spans) ≡ max reach (greatest (map (λ (s : Span). s.stop) left))

pub sweeping_none : (I : Instance) (b : ℕ) (spans : List Span) → IsSweeping I b spans spans 0 None
sweeping_none I b spans = record {
  limit = omega arith;
  below = tt;
  tight = refl;
  high = zero_max
      (greatest (map (λ (s : Span). s.stop) spans));
}
  where
    zero_max : (n : ℕ) → n ≡ max 0 n
    zero_max n = omega arith

weaken : (best : Option Span) (x y : ℕ) → x ≤ y → IfSome best (IsBelow x) → IfSome best (IsBelow y)
weaken None x y le h = tt
weaken (Some q) x y le h = record { some = h.some; below = (let z = h.below in omega arith) }

greatest_first : (s : Span) (ss : List Span) (g reach : ℕ) →
    g ≡ max reach (greatest (map (λ (s : Span). s.stop) (s ∷ ss))) →
    g ≡ max (max reach s.stop) (greatest (map (λ (s : Span). s.stop) ss))
greatest_first s ss g reach h = omega arith

-- past one more, which may have left a range
module _ (I : Instance) (b : ℕ) (spans left rest : List Span) (reach next : ℕ) (s : Span) (best now : Option Span)
    (is : left ≡ s ∷ rest) (low : s.stop ≤ 2 ^ 53) (up : next ≡ max reach s.stop)
    (h : IsSweeping I b spans left reach best) where
  moves : joined (option_map range_of best) (tightest (filter (holds I b) (gaps reach (s ∷ rest))))
      ≡ joined (option_map range_of now) (tightest (filter (holds I b) (gaps next rest))) →
      IfSome now (IsBelow reach) → IsSweeping I b spans rest next now
  moves e below = record {
    limit = (let y = h.limit in omega arith);
    below = weaken now reach next (omega arith) below;
    tight = h.tight ∙ (ap (λ (ss : List Span). joined (option_map range_of best)
        (tightest (filter (holds I b) (gaps reach ss)))) is ∙ e);
    high = rw up (greatest_first s rest (greatest (map (λ (s : Span). s.stop) spans)) reach (rw is at h.high));
  }

  -- no range
  pub sweeping_on : s.start ≤ reach → now ≡ best → IsSweeping I b spans rest next now
  sweeping_on le same = moves (rw (same, up, not_below reach s.start le) refl) (rw same h.below)

  -- a range
  pub sweeping_over : reach < s.start → IfSome now (IsBelow reach) →
      option_map range_of now ≡ narrowed I b (option_map range_of best) (record { start = reach; stop = s.start }) →
      IsSweeping I b spans rest next now
  sweeping_over less below e = moves (rw (is_below reach s.start less, up, e) (go (holds I b r))) below
    where
      r : Range
      r = record { start = reach; stop = s.start }

      T : List Range
      T = filter (holds I b) (gaps (max reach s.stop) rest)

      go : (c : Bool) → joined (option_map range_of best) (tightest (cond c (r ∷ T) T))
          ≡ joined (cond c (narrower (option_map range_of best) r) (option_map range_of best)) (tightest T)
      go true = ap (joined (option_map range_of best)) (tightest_next r T)
          ∙ joined_next (option_map range_of best) r (tightest T)
      go false = refl

-- the greatest top is what is reached
pub highest_is : (I : Instance) (placed : List Entry) (spans : List Span) → AreTaken I placed spans →
    greatest (map (λ (s : Span). s.stop) spans) ≡ highest I placed
unfolding highest
highest_is I placed spans t = both (greatest (map (λ (s : Span). s.stop) spans)) (greatest (map (top I) placed))
    (greatest_under (map (λ (s : Span). s.stop) spans) (greatest (map (top I) placed)) (λ x i.
    let r = from_map (λ (s : Span). s.stop) spans x i in
    let q = t.each r.0 r.1 in
    let a = r.2 in let b = q.2.stop in let z = in_greatest (top I) placed q.0 q.1 in omega arith))
    (greatest_under (map (top I) placed) (greatest (map (λ (s : Span). s.stop) spans)) (λ x i.
    let r = from_map (top I) placed x i in
    let q = t.all r.0 r.1 in
    let a = r.2 in let b = q.2.stop in let z = in_greatest (λ (s : Span). s.stop) spans q.0 q.1 in omega arith))
  where
    both : (m n : ℕ) → m ≤ n → n ≤ m → m ≡ n
    both m n p q = omega arith

swept : (I : Instance) (b : ℕ) (placed : List Entry) (spans : List Span) (reach : ℕ) (best : Option Span) →
    IsInstance I → AreTaken I placed spans → IsSweeping I b spans [] reach best →
    best_place I b placed ≡ start_in I b placed (option_map range_of best) × (reach ≡ highest I placed)
unfolding best_place
swept I b placed spans reach best s t h = (
  ap (start_in I b placed) (sym (swept_is_free I b placed spans s t) ∙ (h.tight ∙ alone (option_map range_of best))),
  reached (greatest (map (λ (s : Span). s.stop) spans)) (highest I placed) reach h.high
      (highest_is I placed spans t),
)
  where
    alone : (o : Option Range) → joined o None ≡ o
    alone None = refl
    alone (Some q) = refl

    reached : (g m reach : ℕ) → g ≡ max reach 0 → g ≡ m → reach ≡ m
    reached g m reach p q = omega arith

-- ---- from seat to seat
module _ (I : Instance) (b : ℕ) (seats : List Seat) (k reach : ℕ) (best : Option Span) (are : AreSeats I seats)
    (h : IsSweeping I b (spans_of I b seats) (spans_of I b (drop k seats)) reach best) where
  -- one that shares no moment
  pub sweeping_by : k < length seats → shares I b (slice_index_or seats k no_seat) ≡ false →
      IsSweeping I b (spans_of I b seats) (spans_of I b (drop (k + 1) seats)) reach best
  sweeping_by lt not = subst (λ (left : List Span). IsSweeping I b (spans_of I b seats) left reach best)
      (shares_not I b seats k (slice_index_or seats k no_seat) lt refl not) h

  -- one that does, above what is reached or not
  pub seat_on : (next : ℕ) (now : Option Span) → k < length seats →
      shares I b (slice_index_or seats k no_seat) ≡ true →
      next ≡ max reach (slice_index_or seats k no_seat).span.stop →
      (slice_index_or seats k no_seat).span.start ≤ reach → now ≡ best →
      IsSweeping I b (spans_of I b seats) (spans_of I b (drop (k + 1) seats)) next now
  seat_on next now lt told up le same = sweeping_on I b (spans_of I b seats) (spans_of I b (drop k seats))
      (spans_of I b (drop (k + 1) seats)) reach next (slice_index_or seats k no_seat).span best now
      (shares_next I b seats k (slice_index_or seats k no_seat) lt refl told) (are.each k no_seat lt).limit up h le same

  pub seat_over : (next : ℕ) (now : Option Span) → k < length seats →
      shares I b (slice_index_or seats k no_seat) ≡ true →
      next ≡ max reach (slice_index_or seats k no_seat).span.stop →
      reach < (slice_index_or seats k no_seat).span.start → IfSome now (IsBelow reach) →
      option_map range_of now ≡ narrowed I b (option_map range_of best)
      (record { start = reach; stop = (slice_index_or seats k no_seat).span.start }) →
      IsSweeping I b (spans_of I b seats) (spans_of I b (drop (k + 1) seats)) next now
  seat_over next now lt told up less below e = sweeping_over I b (spans_of I b seats) (spans_of I b (drop k seats))
      (spans_of I b (drop (k + 1) seats)) reach next (slice_index_or seats k no_seat).span best now
      (shares_next I b seats k (slice_index_or seats k no_seat) lt refl told) (are.each k no_seat lt).limit up h less
      below e

  swept_all : (placed : List Entry) → IsInstance I → length seats ≤ k → IsPermutation (map (seat_of I) placed) seats →
      best_place I b (neighbours I b placed) ≡ start_in I b (neighbours I b placed) (option_map range_of best)
      × (reach ≡ highest I (neighbours I b placed))
  swept_all placed s le moved = swept I b (neighbours I b placed) (spans_of I b seats) reach best s
      (are_taken I b placed seats are.in_order moved) (subst (λ (left : List Seat).
      IsSweeping I b (spans_of I b seats) (spans_of I b left) reach best) (drop_all k seats le) h)

  pub swept_to : (placed : List Entry) → IsInstance I → length seats ≤ k →
      IsPermutation (map (seat_of I) placed) seats → (free : Span) → best ≡ Some free →
      least_from I b free.start ≡ best_place I b (neighbours I b placed)
  swept_to placed s le moved free e = sym ((swept_all placed s le moved).0 ∙ rw e refl)

  pub swept_past : (placed : List Entry) → IsInstance I → length seats ≤ k →
      IsPermutation (map (seat_of I) placed) seats → best ≡ None →
      least_from I b reach ≡ best_place I b (neighbours I b placed)
  swept_past placed s le moved e = let r = swept_all placed s le moved in rw r.1 (sym (r.0 ∙ rw e refl))
