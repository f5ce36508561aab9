-- Clear places, free ranges beside two placed buffers, the tightest range, orders that have each buffer, and no orders.
use Rattle.std.proofs.Common.{◌≡◌, ◌≢◌, ℕ, zero, suc, ◌+◌, ◌≤◌, ◌⊎◌, inl, inr, true, false, nat_lt, nat_le, [], ◌∷◌, Some, None, refl, ap, ap₂, arith}
use Rattle.std.proofs.lemmas.Bool.Decides.{nat_tests}
use Rattle.dsa_terms.specs.Buffers.{buffer}
use Rattle.dsa_terms.specs.Claims.{Entry, IsIn}
use Rattle.dsa_terms.specs.Fits.{top, highest, Range, is_tighter}
use Rattle.dsa_terms.proofs.Examples.{evens}
use Rattle.dsa_terms.proofs.FitFacts.{taken, sizes, range}
use Rattle.dsa_start_laws.specs.Fitting.{IsClear, IsOpen, IsFreeRange, HasEach}
use Rattle.dsa_start_laws.proofs.Tightest.{tighter_of, tightest_in_turn}
use Rattle.dsa_start_laws.specs.Ordering.{IsOrder}

-- size 1 is clear between the two, at 4, and not at 5
small_is_clear : IsClear sizes 2 taken 4
unfolding buffer
small_is_clear = record { aligned = refl; above = omega arith; apart = apart }
  where
    apart : (e : Entry) → IsIn e taken → (4 + 1 ≤ e.1) ⊎ (e.1 + (buffer sizes e.0).size ≤ 4)
    apart e (inl q) = rw q (inr (omega arith))
    apart e (inr (inl q)) = rw q (inl (omega arith))
    apart e (inr (inr i)) = absurd i

small_overlaps : IsClear sizes 2 taken 5 → ⊥
unfolding buffer
small_overlaps c = close (c.apart (1, 5) (inr (inl refl)))
  where
    close : (5 + 1 ≤ 5) ⊎ (5 + 1 ≤ 5) → ⊥
    close (inl h) = omega arith
    close (inr h) = omega arith

-- at 7 the third is apart from both, and not at a multiple of three
threes_unaligned : IsClear sizes 3 taken 7 → ⊥
unfolding buffer
threes_unaligned c = let h = c.aligned in cc

-- 0..3 is free, and no greater range is
low_is_free : IsFreeRange sizes taken (range 0 3)
unfolding range highest top buffer
low_is_free = record {
  is_open = record { not_empty = omega arith; under = omega arith; free = free };
  greatest = λ s o a b. greatest s a b (o.free (0, 3) (inl refl));
}
  where
    free : (e : Entry) → IsIn e taken → (3 ≤ e.1) ⊎ (e.1 + (buffer sizes e.0).size ≤ 0)
    free e (inl q) = rw q (inl (omega arith))
    free e (inr (inl q)) = rw q (inl (omega arith))
    free e (inr (inr i)) = absurd i

    same : (s : Range) → s.start ≡ 0 → s.stop ≡ 3 → s ≡ record { start = 0; stop = 3 }
    same s p q = ap₂ (λ (x y : ℕ). let r : Range = record { start = x; stop = y } in r) p q

    greatest : (s : Range) → s.start ≤ 0 → 3 ≤ s.stop → (s.stop ≤ 3) ⊎ (3 + 1 ≤ s.start) →
        s ≡ record { start = 0; stop = 3 }
    greatest s a b (inl h) = same s (omega arith) (omega arith)
    greatest s a b (inr h) = absurd (omega arith)

-- 0..2 is open too, and not the greatest
part_is_not_free : IsFreeRange sizes taken (range 0 2) → ⊥
unfolding range
part_is_not_free f =
    let q = f.greatest (range 0 3) low_is_free.is_open (omega arith) (omega arith) in
    let h = ap (λ (r : Range). r.stop) q in
    cc

-- 2..4 meets the placed one at 3, and 6..7 is above all the placed
meets_placed : IsOpen sizes taken (range 2 4) → ⊥
unfolding range highest top buffer
meets_placed o = close (o.free (0, 3) (inl refl))
  where
    close : (4 ≤ 3) ⊎ (3 + 1 ≤ 2) → ⊥
    close (inl h) = omega arith
    close (inr h) = omega arith

above_all : IsOpen sizes taken (range 6 7) → ⊥
unfolding range highest top buffer
above_all o = let h = o.under in omega arith

-- of two ranges the shorter, of two of one length the lower, and one alone
shorter_of_two : tighter_of (range 0 3) (Some (range 4 5)) ≡ Some (range 4 5)
unfolding is_tighter range
shorter_of_two = refl

lower_of_two : tighter_of (range 0 2) (Some (range 5 7)) ≡ Some (range 0 2)
unfolding is_tighter range
lower_of_two = refl

one_alone : tighter_of (range 5 7) None ≡ Some (range 5 7)
one_alone = refl

-- of four the shortest are 9..11 and 4..6, of which 4..6 is the lower
lower_of_the_shortest :
    tightest_in_turn (range 0 3 ∷ range 9 11 ∷ range 4 6 ∷ range 20 90 ∷ []) ≡ Some (range 4 6)
unfolding is_tighter range
lower_of_the_shortest = refl

tightest_of_none : tightest_in_turn [] ≡ None
tightest_of_none = refl

-- an order of all three, and one without the last
has_three : HasEach evens (2 ∷ 0 ∷ 1 ∷ [])
has_three zero lt = inr (inl refl)
has_three (suc zero) lt = inr (inr (inl refl))
has_three (suc (suc zero)) lt = inl refl
has_three (suc (suc (suc b))) lt = absurd (omega arith)

has_two : HasEach evens (1 ∷ 0 ∷ []) → ⊥
has_two h = close (h 2 (omega arith))
  where
    close : IsIn {X = ℕ} 2 (1 ∷ 0 ∷ []) → ⊥
    close (inl q) = cc
    close (inr (inl q)) = cc
    close (inr (inr i)) = i

-- 'below' is an order of the numbers, and 'at or below' is none, since 0 would come before itself
below_is_order : IsOrder nat_lt
below_is_order = record { total = total; one_way = one_way; along = along }
  where
    total : (b c : ℕ) → b ≢ c → (nat_lt b c ≡ true) ⊎ (nat_lt c b ≡ true)
    total b c n = grind (arith, nat_tests)

    one_way : (b c : ℕ) → nat_lt b c ≡ true → nat_lt c b ≡ true → ⊥
    one_way b c p q = grind (arith, nat_tests)

    along : (b c d : ℕ) → nat_lt b c ≡ true → nat_lt c d ≡ true → nat_lt b d ≡ true
    along b c d p q = grind (arith, nat_tests)

at_or_below_is_none : IsOrder nat_le → ⊥
at_or_below_is_none o = o.one_way 0 0 refl refl

none_is_not_total : IsOrder (λ b c. false) → ⊥
none_is_not_total o = elim (o.total 0 1 (λ q. omega arith)) [ inl h ↦ cc | inr h ↦ cc ]
