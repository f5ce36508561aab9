-- The free ranges, found by going up from start to start.
use Rattle.std.proofs.Common.{◌≡◌, ℕ, ◌<◌, ◌≤◌, ◌⊎◌, ◌↔◌, inl, inr, Bool, true, false, cond, max, nat_lt, List, [], ◌∷◌, map, slice_index_or, suc, refl, sym, ap, ap₂, ◌∙◌, arith}
use Rattle.std.specs.List.Sorted.{IsNonDecreasingBy}
use Rattle.dsa_terms.specs.Buffers.{Instance, IsInstance}
use Rattle.dsa_terms.specs.Claims.{Entry, IsIn}
use Rattle.dsa_terms.specs.Fits.{Range, highest, top}
use Rattle.dsa_terms.specs.Logs.{greatest}
use Rattle.dsa_terms.proofs.Moments.{sound}
use Rattle.dsa_start_laws.proofs.Places.{under_highest}
use Rattle.dsa_start_laws.proofs.Stacks.{greatest_is}
use Rattle.dsa_terms.proofs.Lists.{from_map}
use Rattle.dsa_terms.proofs.Places.{place_of}
use Rattle.dsa_terms.proofs.NumberTests.{less, not_less}
use Rattle.dsa_start_laws.specs.Fitting.{IsFreeRange, IsOpen}
use Rattle.first_fit.specs.declared.spans.Span.{Span}
use Rattle.first_fit.proofs.Spanning.{AreTaken}

-- the addresses between two
abbrev pub between : ℕ → ℕ → Range
between x y = record { start = x; stop = y }

-- the ranges between what is reached so far and each later start
abbrev pub gaps : ℕ → List Span → List Range
gaps reach [] = []
gaps reach (s ∷ ss) =
    cond (nat_lt reach s.start) (record { start = reach; stop = s.start } ∷ gaps (max reach s.stop) ss)
    (gaps (max reach s.stop) ss)

-- each start is at or below all later ones
abbrev pub Climb : List Span → Type 0
Climb [] = Unit {0}
Climb (s ∷ ss) = ((t : Span) → IsIn t ss → s.start ≤ t.start) × Climb ss

pub climb_from : (spans : List Span) → IsNonDecreasingBy (λ (s : Span). s.start) spans → Climb spans
climb_from [] h = tt
climb_from (s ∷ ss) h = (
  (λ t i. let r = place_of ss t t i in let k = h 0 (suc r.0) t (omega arith) (let z = r.1 in omega arith) in
      let e : (slice_index_or ss r.0 t).start ≡ t.start = ap (λ (t : Span). t.start) r.2 in omega arith),
  climb_from ss (λ i j d le lt. h (suc i) (suc j) d (omega arith) (omega arith)),
)

-- what has been passed: it ends at or below the reach, which is 0 or where one of it ends
record IsPassed (passed : List Span) (reach : ℕ) : Type 0 where
  under : (s : Span) → IsIn s passed → s.stop ≤ reach
  reached : (reach ≡ 0) ⊎ ((s : Span) × IsIn s passed × (s.stop ≡ reach))

-- the greatest top is where one of them ends
highest_reached : (I : Instance) (placed : List Entry) (spans : List Span) → AreTaken I placed spans →
    (highest I placed ≡ 0) ⊎ ((s : Span) × IsIn s spans × (s.stop ≡ highest I placed))
unfolding highest
highest_reached I placed spans t = elim (greatest_is (map (top I) placed)) [
  | inl z ↦ inl z
  | inr i ↦ (let e = from_map (top I) placed (greatest (map (top I) placed)) i in let q = t.all e.0 e.1 in
      inr (q.0, q.1, q.2.stop ∙ sym e.2))
]

module _ (I : Instance) (placed : List Entry) (all : List Span) (s : IsInstance I) (t : AreTaken I placed all) where
  not_empty : (e : Entry) → e.1 < top I e
  unfolding top
  not_empty e = let k = (sound I e.0 s).0 in omega arith

  spans_not_empty : (x : Span) → IsIn x all → x.start < x.stop
  spans_not_empty x i = let r = t.each x i in let a = r.2.start in let b = r.2.stop in let k = not_empty r.0 in
      omega arith

  under_top : (x : Span) → IsIn x all → x.stop ≤ highest I placed
  unfolding top
  under_top x i = let r = t.each x i in let b = r.2.stop in let k = under_highest I placed r.0 r.1 in omega arith

  -- a range that is open meets no span, and a range that meets none is open
  beside : (r : Range) → IsOpen I placed r → (x : Span) → IsIn x all → (r.stop ≤ x.start) ⊎ (x.stop ≤ r.start)
  beside r o x i = let q = t.each x i in elim (o.free q.0 q.1) [
    | inl k ↦ inl (let z = q.2.start in omega arith)
    | inr k ↦ inr (let z = q.2.stop in omega arith)
  ]

  opens : (r : Range) → r.start < r.stop → r.stop ≤ highest I placed →
      ((x : Span) → IsIn x all → (r.stop ≤ x.start) ⊎ (x.stop ≤ r.start)) → IsOpen I placed r
  opens r lt under clear = record {
    not_empty = lt;
    under = under;
    free = λ e i. let q = t.all e i in elim (clear q.0 q.1) [
      | inl k ↦ inl (let z = q.2.start in omega arith)
      | inr k ↦ inr (let z = q.2.stop in omega arith)
    ];
  }

  -- what is passed and what is left are all
  record Stands (passed : List Span) (reach : ℕ) (rest : List Span) : Type 0 where
    split : (y : Span) → IsIn y all → IsIn y passed ⊎ IsIn y rest
    among : (y : Span) → IsIn y passed ⊎ IsIn y rest → IsIn y all
    passing : IsPassed passed reach
    climbs : Climb rest

  -- the range from the reach to the next start
  gap_is_open : (passed : List Span) (reach : ℕ) (x : Span) (rest : List Span) → Stands passed reach (x ∷ rest) →
      reach < x.start → IsOpen I placed (between reach x.start)
  gap_is_open passed reach x rest h lt = opens (between reach x.start) lt
      (let i = h.among x (inr (inl refl)) in let a = spans_not_empty x i in let b = under_top x i in omega arith)
      (λ y i. clear y (h.split y i))
    where
      clear : (y : Span) → IsIn y passed ⊎ IsIn y (x ∷ rest) → (x.start ≤ y.start) ⊎ (y.stop ≤ reach)
      clear y (inl j) = inr (h.passing.under y j)
      clear y (inr (inl q)) = inl (let z : y.start ≡ x.start = ap (λ (y : Span). y.start) q in omega arith)
      clear y (inr (inr j)) = inl (h.climbs.0 y j)

  gap_is_free : (passed : List Span) (reach : ℕ) (x : Span) (rest : List Span) → Stands passed reach (x ∷ rest) →
      reach < x.start → IsFreeRange I placed (between reach x.start)
  gap_is_free passed reach x rest h lt = record {
    is_open = gap_is_open passed reach x rest h lt;
    greatest = λ o op low high. same o (between reach x.start) (starts o op low high h.passing.reached)
        (stops o op low high);
  }
    where
      same : (r s : Range) → r.start ≡ s.start → r.stop ≡ s.stop → r ≡ s
      same r s p q = ap₂ (λ (x y : ℕ). let r : Range = record { start = x; stop = y } in r) p q

      stops : (o : Range) → IsOpen I placed o → o.start ≤ reach → x.start ≤ o.stop → o.stop ≡ x.start
      stops o op low high =
          let i = h.among x (inr (inl refl)) in
          let k = spans_not_empty x i in
          elim (beside o op x i) [
            | inl a ↦ omega arith
            | inr a ↦ absurd (omega arith)
          ]

      starts : (o : Range) → IsOpen I placed o → o.start ≤ reach → x.start ≤ o.stop →
          (reach ≡ 0) ⊎ ((s : Span) × IsIn s passed × (s.stop ≡ reach)) → o.start ≡ reach
      starts o op low high (inl z) = omega arith
      starts o op low high (inr q) =
          let i = h.among q.0 (inl q.1) in
          let k = spans_not_empty q.0 i in let e = q.2 in
          elim (beside o op q.0 i) [
            | inl a ↦ absurd (omega arith)
            | inr a ↦ omega arith
          ]

  -- past one more
  step : (passed : List Span) (reach : ℕ) (x : Span) (rest : List Span) → Stands passed reach (x ∷ rest) →
      Stands (x ∷ passed) (max reach x.stop) rest
  step passed reach x rest h = record {
    split = λ y i. moved y (h.split y i);
    among = λ y i. h.among y (back y i);
    passing = record { under = under; reached = reached (cases reach x.stop) h.passing.reached };
    climbs = h.climbs.1;
  }
    where
      cases : (m n : ℕ) → (m ≤ n) ⊎ (n < m)
      cases m n = grind arith

      moved : (y : Span) → IsIn y passed ⊎ IsIn y (x ∷ rest) → IsIn y (x ∷ passed) ⊎ IsIn y rest
      moved y (inl j) = inl (inr j)
      moved y (inr (inl q)) = inl (inl q)
      moved y (inr (inr j)) = inr j

      back : (y : Span) → IsIn y (x ∷ passed) ⊎ IsIn y rest → IsIn y passed ⊎ IsIn y (x ∷ rest)
      back y (inl (inl q)) = inr (inl q)
      back y (inl (inr j)) = inl j
      back y (inr j) = inr (inr j)

      under : (y : Span) → IsIn y (x ∷ passed) → y.stop ≤ max reach x.stop
      under y (inl q) = let z : y.stop ≡ x.stop = ap (λ (y : Span). y.stop) q in omega arith
      under y (inr j) = let z = h.passing.under y j in omega arith

      reached : (reach ≤ x.stop) ⊎ (x.stop < reach) →
          (reach ≡ 0) ⊎ ((s : Span) × IsIn s passed × (s.stop ≡ reach)) →
          (max reach x.stop ≡ 0) ⊎ ((s : Span) × IsIn s (x ∷ passed) × (s.stop ≡ max reach x.stop))
      reached (inl le) r = inr (x, inl refl, omega arith)
      reached (inr lt) (inl z) = absurd (omega arith)
      reached (inr lt) (inr q) = inr (q.0, inr q.1, (let e = q.2 in omega arith))

  start : Climb all → Stands [] 0 all
  start up = record {
    split = λ y i. inr i;
    among = λ y i. elim i [ inl j ↦ absurd j | inr j ↦ j ];
    passing = record { under = λ y i. absurd i; reached = inl refl };
    climbs = up;
  }

  -- each of them is a free range
  from_gaps : (passed : List Span) (reach : ℕ) (rest : List Span) → Stands passed reach rest → (r : Range) →
      IsIn r (gaps reach rest) → IsFreeRange I placed r
  from_gaps passed reach [] h r i = absurd i
  from_gaps passed reach (x ∷ xs) h r i =
      go (from_gaps (x ∷ passed) (max reach x.stop) xs (step passed reach x xs h) r) (nat_lt reach x.start) refl i
    where
      go : (IsIn r (gaps (max reach x.stop) xs) → IsFreeRange I placed r) → (c : Bool) → nat_lt reach x.start ≡ c →
          IsIn r (cond c (between reach x.start ∷ gaps (max reach x.stop) xs) (gaps (max reach x.stop) xs)) →
          IsFreeRange I placed r
      go ih true e (inl q) = rw q (gap_is_free passed reach x xs h (less reach x.start e))
      go ih true e (inr j) = ih j
      go ih false e j = ih j

  -- and each free range above what is passed is one of them
  into_gaps : (passed : List Span) (reach : ℕ) (rest : List Span) → Stands passed reach rest → (r : Range) →
      IsFreeRange I placed r → reach ≤ r.start → IsIn r (gaps reach rest)
  into_gaps passed reach [] h r f le = absurd (none (highest_reached I placed all t))
    where
      none : (highest I placed ≡ 0) ⊎ ((y : Span) × IsIn y all × (y.stop ≡ highest I placed)) → ⊥
      none (inl z) = let k = f.is_open.not_empty in let u = f.is_open.under in omega arith
      none (inr q) = let k = f.is_open.not_empty in let u = f.is_open.under in let e = q.2 in elim (h.split q.0 q.1) [
        | inl j ↦ (let z = h.passing.under q.0 j in omega arith)
        | inr j ↦ absurd j
      ]
  into_gaps passed reach (x ∷ xs) h r f le =
      go (into_gaps (x ∷ passed) (max reach x.stop) xs (step passed reach x xs h) r f)
      (beside r f.is_open x (h.among x (inr (inl refl)))) (nat_lt reach x.start) refl
    where
      go : (max reach x.stop ≤ r.start → IsIn r (gaps (max reach x.stop) xs)) →
          (r.stop ≤ x.start) ⊎ (x.stop ≤ r.start) → (c : Bool) → nat_lt reach x.start ≡ c →
          IsIn r (cond c (between reach x.start ∷ gaps (max reach x.stop) xs) (gaps (max reach x.stop) xs))
      go ih (inl q) true e = inl (sym (f.greatest (between reach x.start)
          (gap_is_open passed reach x xs h (less reach x.start e)) le q))
      go ih (inl q) false e = absurd (let k = f.is_open.not_empty in let z = not_less reach x.start e in omega arith)
      go ih (inr q) true e = inr (ih (omega arith))
      go ih (inr q) false e = ih (omega arith)

-- going up finds just the free ranges
pub gaps_exactly : (I : Instance) (placed : List Entry) (spans : List Span) (r : Range) → IsInstance I →
    AreTaken I placed spans → IsIn r (gaps 0 spans) ↔ IsFreeRange I placed r
gaps_exactly I placed spans r s t = (
  from_gaps I placed spans s t [] 0 spans (start I placed spans s t (climb_from spans t.sorted)) r,
  λ f. into_gaps I placed spans s t [] 0 spans (start I placed spans s t (climb_from spans t.sorted)) r f (omega arith),
)
