-- Worked lines: how low an Over line may be, lowered claims, and cites of other buffers.
use Rattle.std.proofs.Common.{◌≡◌, ◌∙◌, ◌≤◌, ℕ, zero, suc, false, true, inl, inr, [], ◌∷◌, map, length, List, Some, None, refl, sym, ap, subst, lit≤, arith}
use Rattle.dsa_terms.specs.Buffers.{Buffer, Instance, is_live, buffer, have_same_moments, some_before}
use Rattle.dsa_terms.specs.Claims.{Claim, Covers, Entry, up}
use Rattle.dsa_terms.specs.Logs.{ByLine, Below, Twin, Cases, Over, Line, claim_of, ends_below, is_stacked, is_twin, rounded, rounding, stack_height}
use Rattle.conflicts.specs.Covering.{IsCoveringLine}
use Rattle.conflicts.specs.Eased.{HasNoOwn, IsLower, IsLowerCases, IsNoHigher, IsOwnOf, cut, eased_over, from_height, least_height, least_over, lowered}
use Rattle.conflicts.specs.Easing.{IsEasedFrom}
use Rattle.conflicts.specs.Ends.{IsLeastEnd, end_of}
use Rattle.conflicts.specs.Walks.{IsMarked, IsWalk}

abbrev pub plain : ℕ → ℕ → ℕ → ℕ → Buffer
plain lower upper size alignment = record {
  lower = lower;
  upper = upper;
  size = size;
  alignment = alignment;
  gaps = [];
  lowest = 0;
}

-- two buffers of size 1 at even offsets and one of size 2, all live at moment 0, and one that is live at moment 1
abbrev pub four : Instance
four = plain 0 1 1 2 ∷ plain 0 1 1 2 ∷ plain 0 1 2 1 ∷ plain 1 2 1 1 ∷ []

-- ---- Over lines
-- both rounded up to 2, less one rounding
height_of_two : stack_height four 0 2 ((0, 9) ∷ (1, 10) ∷ []) ≡ 3
unfolding rounded rounding buffer
height_of_two = refl

height_by_ones : stack_height four 0 1 ((0, 9) ∷ (1, 10) ∷ []) ≡ 2
unfolding rounded rounding buffer
height_by_ones = refl

-- from 2 on they reach 5, and from 0 on they would reach 3
least_of_two : least_height four 4 2 ((0, 9) ∷ (1, 10) ∷ []) ≡ 2
unfolding least_height rounded rounding buffer
least_of_two = refl

-- at a multiple of 2, where 1 would do
least_is_a_multiple : least_height four 3 2 ((0, 9) ∷ (1, 10) ∷ []) ≡ 2
unfolding least_height rounded rounding buffer
least_is_a_multiple = refl

least_is_zero : least_height four 2 2 ((0, 9) ∷ (1, 10) ∷ []) ≡ 0
unfolding least_height rounded rounding buffer
least_is_zero = refl

two_from_height : from_height 2 ((0, 9) ∷ (1, 10) ∷ []) ≡ (0, 2) ∷ (1, 2) ∷ []
two_from_height = refl

-- buffer 2 stands at odd offsets too, and buffer 3 is not live at moment 0
too_high : eased_over four 4 ((0, 9) ∷ (1, 10) ∷ (2, 10) ∷ (3, 0) ∷ []) 0 10 2 ≡ Over ((0, 2) ∷ (1, 2) ∷ []) 0 2 2
unfolding least_height is_stacked rounded rounding up is_live buffer
too_high = refl

least_line : least_over four 4 0 2 ((0, 9) ∷ (1, 10) ∷ []) ≡ Over ((0, 2) ∷ (1, 2) ∷ []) 0 2 2
unfolding least_height rounded rounding buffer
least_line = refl

low_enough : eased_over four 4 ((2, 3) ∷ []) 0 3 1 ≡ Over ((2, 3) ∷ []) 0 3 1
unfolding least_height is_stacked rounded rounding up is_live buffer
low_enough = refl

-- ---- lowered claims
-- the bounds 1 and 2 have the low 2, and the bound 3 has the low 4
lowered_even : lowered four (1, 2) ≡ (1, 1)
unfolding lowered up buffer
lowered_even = refl

lowered_odd : lowered four (1, 3) ≡ (1, 3)
unfolding lowered up buffer
lowered_odd = refl

lowered_zero : lowered four (0, 0) ≡ (0, 0)
unfolding lowered up buffer
lowered_zero = refl

lowered_by_ones : lowered four (2, 7) ≡ (2, 7)
unfolding lowered up buffer
lowered_by_ones = refl

-- ---- cites of other buffers
whole_twin : IsOwnOf four ((0, 0) ∷ (1, 0) ∷ (2, 0) ∷ []) (1, 0) (Some (Twin 0))
unfolding is_twin have_same_moments some_before is_live up buffer
whole_twin = ((0, 0), inl refl, refl, refl)

not_without_twin : IsOwnOf four ((0, 0) ∷ (1, 0) ∷ (2, 0) ∷ []) (1, 0) None → ⊥
unfolding is_twin have_same_moments some_before is_live up buffer
not_without_twin h = h.twin (0, 0) (inl refl) refl

below_stands : IsOwnOf four ((0, 0) ∷ (1, 2) ∷ []) (1, 2) (Some (Below 0))
unfolding ends_below up buffer
below_stands = ((0, 0), inl refl, refl, refl)

none_own : IsOwnOf four ((1, 1) ∷ (2, 1) ∷ []) (2, 1) None
unfolding ends_below is_twin have_same_moments some_before is_live up buffer
none_own = record {
  below = λ f i t. elim i [
    | inl q ↦ (let k = rw q at t in cc)
    | inr j ↦ elim j [ inl q ↦ (let k = rw q at t in cc) | inr n ↦ absurd n ]
  ];
  twin = λ f i t. elim i [
    | inl q ↦ (let k = rw q at t in cc)
    | inr j ↦ elim j [ inl q ↦ (let k = rw q at t in cc) | inr n ↦ absurd n ]
  ];
}

none_below_or_twin : HasNoOwn four ((1, 1) ∷ (2, 1) ∷ []) (2, 1)
none_below_or_twin = none_own

-- ---- ends
end_from_low : end_of four (1, 1) ≡ 3
unfolding end_of up buffer
end_from_low = refl

lowest_end : IsLeastEnd four ((1, 3) ∷ (2, 1) ∷ []) 2
unfolding end_of up buffer
lowest_end = record {
  is_in = inr (inl refl);
  least = λ f i. elim i [
    | inl q ↦ rw q (lit≤ {m = 3} {n = 5} tt)
    | inr j ↦ elim j [ inl q ↦ rw q (lit≤ {m = 3} {n = 3} tt) | inr n ↦ absurd n ]
  ];
}

-- buffer 1 ends at 5
not_lowest_end : IsLeastEnd four ((1, 3) ∷ (2, 1) ∷ []) 1 → ⊥
unfolding end_of up buffer
not_lowest_end h = let k : 5 ≤ 3 = h.least (2, 1) (inr (inl refl)) in omega arith

no_end_of_another : IsLeastEnd four ((1, 3) ∷ (2, 1) ∷ []) 0 → ⊥
no_end_of_another h = elim h.is_in [ inl q ↦ cc | inr j ↦ elim j [ inl q ↦ cc | inr n ↦ absurd n ] ]

-- ---- Cases lines
lower_bounds : map (lowered four) ((1, 2) ∷ (2, 1) ∷ []) ≡ (1, 1) ∷ (2, 1) ∷ []
unfolding lowered up buffer
lower_bounds = refl

-- what is needed of buffer 1 is below its bound, and of buffer 2 above
cut_bounds : map (cut (0 ∷ 3 ∷ 8 ∷ [])) ((1, 5) ∷ (2, 7) ∷ []) ≡ (1, 3) ∷ (2, 7) ∷ []
cut_bounds = refl

no_higher : IsNoHigher (2, 7) (2, 7)
no_higher = (refl, lit≤ tt)

higher : IsNoHigher (2, 7) (2, 8) → ⊥
higher h = let k = h.1 in omega arith

-- without buffer 1, and with a lower bound
some_lower : IsLower ((1, 2) ∷ (2, 7) ∷ []) ((2, 3) ∷ [])
some_lower = record {
  rises = (λ y i. absurd i, tt);
  each = λ f i. elim i [
    | inl q ↦ ((2, 7), inr (inl refl), rw q (refl, lit≤ {m = 3} {n = 7} tt))
    | inr j ↦ absurd j
  ];
}

no_other_buffer : IsLower ((1, 2) ∷ []) ((2, 0) ∷ []) → ⊥
no_other_buffer h = let q = h.each (2, 0) (inl refl) in elim q.1 [ inl k ↦ (let n = q.2.0 in cc) | inr j ↦ absurd j ]

lower_line_is_cases : (l : Claim) → IsLowerCases four [] l (Over ((2, 3) ∷ []) 0 3 1) → ⊥
lower_line_is_cases l h = let k = h.is in cc

only_two : (b : ℕ) → IsMarked (false ∷ false ∷ true ∷ false ∷ []) b → b ≡ 2
only_two zero m = absurd cc
only_two (suc zero) m = absurd cc
only_two (suc (suc zero)) m = refl
only_two (suc (suc (suc zero))) m = absurd cc
only_two (suc (suc (suc (suc b)))) m = absurd cc

one_met : IsWalk four ((1, 1) ∷ (2, 1) ∷ []) (false ∷ false ∷ true ∷ false ∷ []) (1 ∷ [])
one_met = record {
  count = refl;
  of_claim = λ b i. elim i [ inl q ↦ inl q | inr n ↦ absurd n ];
  marked = λ b m.
      let two = only_two b m in
      (inr (inl two), λ i. elim i [ inl one ↦ (let q = sym two ∙ one in cc) | inr n ↦ n ]);
  each = λ b i. elim i [ inl one ↦ inr (inl one) | inr j ↦ elim j [ inl two ↦ inl (rw two refl) | inr n ↦ absurd n ] ];
}

met_and_marked : IsWalk four ((1, 1) ∷ []) (false ∷ true ∷ false ∷ false ∷ []) (1 ∷ []) → ⊥
met_and_marked h = (h.marked 1 refl).1 (inl refl)

neither_met_nor_marked : IsWalk four ((1, 1) ∷ []) (false ∷ false ∷ false ∷ false ∷ []) [] → ⊥
neither_met_nor_marked h = elim (h.each 1 (inl refl)) [ inl q ↦ cc | inr n ↦ n ]

not_of_the_claim : IsWalk four ((1, 1) ∷ []) (false ∷ true ∷ false ∷ false ∷ []) (2 ∷ []) → ⊥
not_of_the_claim h = elim (h.of_claim 2 (inl refl)) [ inl q ↦ cc | inr n ↦ absurd n ]

too_few_marks : IsWalk four ((1, 1) ∷ []) (false ∷ true ∷ false ∷ []) (1 ∷ []) → ⊥
too_few_marks h = let k = h.count in cc

-- ---- what an eased line comes from
eased_from_four : IsEasedFrom four 4 (Over ((0, 9) ∷ (1, 10) ∷ (2, 10) ∷ (3, 0) ∷ []) 0 10 2)
    (Over ((0, 2) ∷ (1, 2) ∷ []) 0 2 2)
eased_from_four = sym too_high

abbrev moment_of : Line → ℕ
moment_of (Over l T H G) = T
moment_of (Cases l cites) = 0

other_moment : IsEasedFrom four 4 (Over ((2, 3) ∷ []) 0 3 1) (Over ((2, 3) ∷ []) 1 3 1) → ⊥
other_moment e = let q : 1 ≡ 0 = ap moment_of (e ∙ low_enough) in omega (arith, q)

-- buffer 1 is left out, which stands on buffer 0
one_left_out : IsEasedFrom four 4 (Over ((0, 9) ∷ (1, 10) ∷ (2, 10) ∷ (3, 0) ∷ []) 0 10 2)
    (Over ((0, 4) ∷ []) 0 4 2) → ⊥
one_left_out e = let q : 1 ≡ 2 = ap (λ line. length (claim_of line)) (e ∙ too_high) in omega (arith, q)

abbrev modulus_of : Line → ℕ
modulus_of (Over l T H G) = G
modulus_of (Cases l cites) = 0

other_modulus : IsEasedFrom four 4 (Over ((2, 3) ∷ []) 0 3 1) (Over ((2, 3) ∷ []) 0 3 2) → ⊥
other_modulus e = let q : 2 ≡ 1 = ap modulus_of (e ∙ low_enough) in omega (arith, q)

cases_from_over : IsEasedFrom four 4 (Over ((2, 3) ∷ []) 0 3 1) (Cases ((2, 3) ∷ []) (ByLine 0 ∷ [])) → ⊥
cases_from_over e = let q = e ∙ low_enough in cc

cases_from_cases : IsEasedFrom four 4 (Cases ((2, 3) ∷ []) (ByLine 0 ∷ [])) (Cases ((2, 3) ∷ []) (Below 1 ∷ []))
cases_from_cases = tt

over_from_cases : IsEasedFrom four 4 (Cases ((2, 3) ∷ []) (ByLine 0 ∷ [])) (Over ((2, 3) ∷ []) 0 3 1) → ⊥
over_from_cases k = k

-- ---- covering lines
abbrev pub two_lines : List Line
two_lines = Over ((2, 3) ∷ []) 0 3 1 ∷ Over ((1, 4) ∷ []) 0 4 1 ∷ []

-- the low of the bound 3 is 4
covered_by_second : IsCoveringLine four two_lines ((1, 3) ∷ (2, 0) ∷ []) 1
unfolding up buffer
covered_by_second = (
  Over ((1, 4) ∷ []) 0 4 1,
  refl,
  λ e i. elim i [
    | inl q ↦ ((1, 3), inl refl, rw q refl, rw q (lit≤ {m = 4} {n = 4} tt))
    | inr j ↦ absurd j
  ],
)

no_third_line : (l : Claim) → IsCoveringLine four two_lines l 2 → ⊥
no_third_line l c = let k = c.1 in cc

-- the up of 2 is 0
not_covered_by_first : IsCoveringLine four two_lines ((1, 3) ∷ (2, 0) ∷ []) 0 → ⊥
unfolding up buffer
not_covered_by_first c =
    let e : c.0 ≡ Over ((2, 3) ∷ []) 0 3 1 = (let k = c.1 in cc) in
    let f = subst (λ line. Covers four (claim_of line) ((1, 3) ∷ (2, 0) ∷ [])) e c.2 (2, 3) (inl refl) in
    elim f.1 [
      | inl q ↦ (let k : f.0.0 ≡ 1 = rw q refl in let n = f.2 in absurd (omega arith))
      | inr j ↦ elim j [
        | inl q ↦ (let k : 3 ≤ 0 = subst (λ (e : Entry). 3 ≤ up four e) q f.3 in absurd (omega arith))
        | inr n ↦ absurd n
      ]
    ]
