-- Two buffers that are live at the same moments.
use Rattle.std.proofs.Common.{◌≡◌, ℕ, ◌+◌, ◌<◌, ◌≤◌, ◌⊎◌, inl, inr, ◌==◌, ◌&&◌, Bool, true, false, not, max, List, [], ◌∷◌, refl, ap, sym, ◌∙◌, arith}
use Rattle.std.proofs.lemmas.Bool.Decides.{same_from_decides}
use Rattle.std.proofs.lemmas.Slice.Eq.{slice_eq-Decides}
use Rattle.std.specs.Bool.{beq, Decides}
use Rattle.std.specs.Cmp.Lexicographic.{pointwise}
use Rattle.dsa_terms.specs.Buffers.{Buffer, is_live, have_same_moments, HaveSameMoments}
use Rattle.dsa_terms.proofs.Moments.{and_true, same_moments}
use Rattle.dsa_terms.proofs.NumberTests.{equal, same}
use Rattle.dsa_model.specs.LiveRanges.{AreApartFrom, AreLiveRanges, is_in}
use Rattle.dsa_model.proofs.LiveRanges.{in_first, past_first, not_in_before_first, not_in_at_end}
use Rattle.dsa_model.proofs.Live.{none_from}

-- ---- ranges of the same moments are the same
three_ways : (m n : ℕ) → (m < n) ⊎ ((n < m) ⊎ (m ≡ n))
three_ways m n = grind arith

same_pair : (x y : ℕ × ℕ) → x.0 ≡ y.0 → x.1 ≡ y.1 → x ≡ y
same_pair (a, b) (c, d) p q = cc

true_not_false : {b c : Bool} → b ≡ true → c ≡ false → b ≡ c → ⊥
true_not_false h k e = cc

pub same_ranges : (n : ℕ) (xs ys : List (ℕ × ℕ)) → AreApartFrom n xs → AreApartFrom n ys →
    ((t : ℕ) → n ≤ t → is_in xs t ≡ is_in ys t) → xs ≡ ys
same_ranges n [] [] h k e = refl
same_ranges n [] (y ∷ ys) h k e =
    absurd (true_not_false (in_first y.0 y ys (omega arith) k.1) refl (sym (e y.0 k.0)))
same_ranges n (x ∷ xs) [] h k e = absurd (true_not_false (in_first x.0 x xs (omega arith) h.1) refl (e x.0 h.0))
same_ranges n (x ∷ xs) (y ∷ ys) h k e =
    let p : x.0 ≡ y.0 = begins (three_ways x.0 y.0) in
    let q : x.1 ≡ y.1 = ends p (three_ways x.1 y.1) in
    tails p q (same_ranges (x.1 + 1) xs ys h.2 (rw q k.2)
    (λ t le. sym (past_first t x xs (omega arith)) ∙ (e t (from_on t le) ∙ past_first t y ys (past q t le))))
  where
    from_on : (t : ℕ) → x.1 + 1 ≤ t → n ≤ t
    from_on t le = let a = h.0 in let b = h.1 in omega arith

    past : x.1 ≡ y.1 → (t : ℕ) → x.1 + 1 ≤ t → y.1 ≤ t
    past q t le = omega arith

    tails : x.0 ≡ y.0 → x.1 ≡ y.1 → xs ≡ ys → (x ∷ xs) ≡ (y ∷ ys)
    tails p q r = let s : x ≡ y = same_pair x y p q in cc

    begins : (x.0 < y.0) ⊎ ((y.0 < x.0) ⊎ (x.0 ≡ y.0)) → x.0 ≡ y.0
    begins (inl lt) = absurd
        (true_not_false (in_first x.0 x xs (omega arith) h.1) (not_in_before_first n x.0 y ys k lt) (e x.0 h.0))
    begins (inr (inl lt)) = absurd
        (true_not_false (in_first y.0 y ys (omega arith) k.1) (not_in_before_first n y.0 x xs h lt) (sym (e y.0 k.0)))
    begins (inr (inr p)) = p

    ends : x.0 ≡ y.0 → (x.1 < y.1) ⊎ ((y.1 < x.1) ⊎ (x.1 ≡ y.1)) → x.1 ≡ y.1
    ends p (inl lt) =
        let a = h.0 in let b = h.1 in absurd
        (true_not_false (in_first x.1 y ys (omega arith) lt) (not_in_at_end n x.1 x xs h refl)
        (sym (e x.1 (omega arith))))
    ends p (inr (inl lt)) =
        let a = k.0 in let b = k.1 in absurd
        (true_not_false (in_first y.1 x xs (omega arith) lt) (not_in_at_end n y.1 y ys k refl) (e y.1 (omega arith)))
    ends p (inr (inr q)) = q

-- ---- the test
beq_same : (a b : Bool) → a ≡ b → beq a b ≡ true
beq_same true true h = refl
beq_same true false h = absurd cc
beq_same false true h = absurd cc
beq_same false false h = refl

have_from_same : (b c : Buffer) → HaveSameMoments b c → have_same_moments b c ≡ true
unfolding have_same_moments
have_from_same b c h =
    ap not (none_from (max b.upper c.upper) (λ t. not (beq (is_live b t) (is_live c t)))
    (λ t. ap not (beq_same _ _ (h t))))

pair_decides : (x y : ℕ × ℕ) → Decides ((x.0 == y.0) && (x.1 == y.1)) (x ≡ y)
pair_decides x y = (equal_pair, same_tests)
  where
    equal_pair : ((x.0 == y.0) && (x.1 == y.1)) ≡ true → x ≡ y
    equal_pair h = let q = and_true (x.0 == y.0) (x.1 == y.1) h in
        same_pair x y (equal x.0 y.0 q.0) (equal x.1 y.1 q.1)

    same_tests : x ≡ y → ((x.0 == y.0) && (x.1 == y.1)) ≡ true
    same_tests e =
        rw (same x.0 y.0 (ap (λ (z : ℕ × ℕ). z.0) e), same x.1 y.1 (ap (λ (z : ℕ × ℕ). z.1) e)) refl

-- what a comparison of their ranges tells
pub by_ranges : (b c : Buffer) (xs ys : List (ℕ × ℕ)) (r : Bool) → AreLiveRanges b xs → AreLiveRanges c ys →
    r ≡ pointwise (λ (x y : ℕ × ℕ). (x.0 == y.0) && (x.1 == y.1)) xs ys →
    record { same : Decides r (HaveSameMoments b c); test : r ≡ have_same_moments b c }
by_ranges b c xs ys r h k e = record {
  same = same;
  test = same_from_decides r (have_same_moments b c) same (same_moments b c, have_from_same b c);
}
  where
    equal_lists : Decides r (xs ≡ ys)
    equal_lists = slice_eq-Decides pair_decides xs ys r e

    same : Decides r (HaveSameMoments b c)
    same = (
      λ q t. h.live t ∙ (ap (λ (zs : List (ℕ × ℕ)). is_in zs t) (equal_lists.0 q) ∙ sym (k.live t)),
      λ s. equal_lists.1 (same_ranges 0 xs ys h.apart k.apart (λ t le. sym (h.live t) ∙ (s t ∙ k.live t))),
    )
