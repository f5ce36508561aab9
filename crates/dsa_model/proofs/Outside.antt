-- The ranges of a lifetime that its gaps leave.
use Rattle.std.proofs.Common.{◌≡◌, ℕ, suc, ◌+◌, ◌<◌, ◌≤◌, ◌⊎◌, inl, inr, Bool, true, false, not, max, ◌||◌, ◌&&◌, ◌==◌, nat_le, nat_lt, List, [], ◌∷◌, ◌++◌, get_or, length, drop, append-nil, refl, ap, ◌∙◌, arith}
use Rattle.std.proofs.lemmas.Bool.Decides.{nat_tests}
use Rattle.std.proofs.lemmas.List.{drop_more, drop_all}
use Rattle.std.proofs.lemmas.List.Folds.{list_any_none, list_any-append}
use Rattle.std.proofs.lemmas.List.Sorted.{All-permutation, IsNonDecreasingBy-drop, list_any-IsPermutation}
use Rattle.std.specs.List.{All}
use Rattle.std.specs.List.Sorted.{IsNonDecreasingBy, IsPermutation}
use Rattle.dsa_terms.specs.Buffers.{Buffer, is_live, is_within}
use Rattle.dsa_terms.proofs.NumberTests.{below_or_from, differ, equal, is_below, not_below}
use Rattle.dsa_model.specs.Buffer.{IsInside, buffer_of, is_ever_live, lasting}
use Rattle.dsa_model.specs.LiveRanges.{AreApartFrom, AreLiveRanges, is_in, range_of}
use Rattle.dsa_model.proofs.Live.{is_ever, is_never}
use Rattle.dsa_model.proofs.LiveRanges.{before_range, in_first}

-- the buffer is live in these ranges, and from `from` on outside the gaps that are left; what begins at `from` is apart
-- from the ranges
pub record IsWalked (b : Buffer) (left : List (ℕ × ℕ)) (from : ℕ) (ranges : List (ℕ × ℕ)) : Type 0 where
  pub apart : (to : ℕ) → from < to → AreApartFrom 0 (ranges ++ (from, to) ∷ [])
  pub live : (t : ℕ) →
      is_live b t ≡ (is_in ranges t || (nat_le from t && nat_lt t b.upper && not (is_in left t)))

pub walked_none : (b : Buffer) (rising : List (ℕ × ℕ)) → IsPermutation b.gaps rising → IsWalked b rising b.lower []
unfolding is_live
walked_none b rising h = record {
  apart = λ to lt. (omega arith, lt, tt);
  live = λ t. ap (λ c. nat_le b.lower t && nat_lt t b.upper && not c)
      (list_any-IsPermutation (is_within t) b.gaps rising h);
}

-- a range may begin later, and behind one that ended before
later : (n from next to : ℕ) (ranges : List (ℕ × ℕ)) → from ≤ next → next < to →
    AreApartFrom n (ranges ++ (from, to) ∷ []) → AreApartFrom n (ranges ++ (next, to) ∷ [])
later n from next to [] le lt h = (let k = h.0 in omega arith, lt, tt)
later n from next to (r ∷ rs) le lt h = (h.0, h.1, later (r.1 + 1) from next to rs le lt h.2)

behind : (n from end next to : ℕ) (ranges : List (ℕ × ℕ)) → end < next → next < to →
    AreApartFrom n (ranges ++ (from, end) ∷ []) → AreApartFrom n ((ranges ++ (from, end) ∷ []) ++ (next, to) ∷ [])
behind n from end next to [] le lt h = (h.0, h.1, (omega arith, lt, tt))
behind n from end next to (r ∷ rs) le lt h = (h.0, h.1, behind (r.1 + 1) from end next to rs le lt h.2)

fewer : (n : ℕ) (ranges more : List (ℕ × ℕ)) → AreApartFrom n (ranges ++ more) → AreApartFrom n ranges
fewer n [] more h = tt
fewer n (r ∷ rs) more h = (h.0, h.1, fewer (r.1 + 1) rs more h.2)

some_range : (from to : ℕ) → from < to → range_of from to ≡ (from, to) ∷ []
some_range from to lt = rw (is_below from to lt) refl

no_range : (from to : ℕ) → to ≤ from → range_of from to ≡ []
no_range from to le = rw (not_below from to le) refl

in_range_of : (from to t : ℕ) → is_in (range_of from to) t ≡ (nat_le from t && nat_lt t to)
in_range_of from to t = elim (below_or_from from to) [
  | inl lt ↦ rw (some_range from to lt) (one (nat_le from t && nat_lt t to))
  | inr le ↦ rw (no_range from to le) (none from to t le)
]
  where
    one : (c : Bool) → (c || false) ≡ c
    one true = refl
    one false = refl

    none : (from to t : ℕ) → to ≤ from → false ≡ (nat_le from t && nat_lt t to)
    none from to t le = grind (arith, nat_tests)

-- gaps that begin no earlier than one do not hold what is before it
pub none_earlier : (t : ℕ) (gap : ℕ × ℕ) (left : List (ℕ × ℕ)) → IsNonDecreasingBy (λ (g : ℕ × ℕ). g.0) (gap ∷ left) →
    t < gap.0 → is_in left t ≡ false
none_earlier t gap left up lt = list_any_none (is_within t) left (λ k d l.
    let a : gap.0 ≤ (get_or left k d).0 = up 0 (suc k) d (omega arith) (omega arith) in
    before_range t (get_or left k d).0 (get_or left k d).1 (omega arith))

pub walked_on : (b : Buffer) (gap : ℕ × ℕ) (left : List (ℕ × ℕ)) (from next : ℕ) (ranges new : List (ℕ × ℕ)) →
    gap.0 < gap.1 → gap.1 ≤ b.upper → IsNonDecreasingBy (λ (g : ℕ × ℕ). g.0) (gap ∷ left) →
    next ≡ max from gap.1 → new ≡ ranges ++ range_of from gap.0 →
    IsWalked b (gap ∷ left) from ranges → IsWalked b left next new
walked_on b gap left from next ranges new some within up e f h =
    rw f (record { apart = apart (below_or_from from gap.0); live = λ t. h.live t ∙ live t })
  where
    apart : (from < gap.0) ⊎ (gap.0 ≤ from) → (to : ℕ) → next < to →
        AreApartFrom 0 ((ranges ++ range_of from gap.0) ++ (next, to) ∷ [])
    apart (inl lt) to l =
        rw (some_range from gap.0 lt) (behind 0 from gap.0 next to ranges (omega arith) l (h.apart gap.0 lt))
    apart (inr le) to l =
        rw (no_range from gap.0 le, append-nil) (later 0 from next to ranges (omega arith) l (h.apart to (omega arith)))

    joined : (p q r s : Bool) → q ≡ (r || s) → (p || q) ≡ ((p || r) || s)
    joined true q r s e = refl
    joined false q r s e = e

    step : (a c u t : ℕ) (rest : Bool) → a < c → c ≤ u → (t < a → rest ≡ false) → (n : ℕ) → n ≡ max from c →
        (nat_le from t && nat_lt t u && not ((nat_le a t && nat_lt t c) || rest))
        ≡ ((nat_le from t && nat_lt t a) || (nat_le n t && nat_lt t u && not rest))
    step a c u t true lt le before n e = grind (arith, nat_tests)
    step a c u t false lt le before n e = grind (arith, nat_tests)

    live : (t : ℕ) → (is_in ranges t || (nat_le from t && nat_lt t b.upper && not (is_in (gap ∷ left) t)))
        ≡ (is_in (ranges ++ range_of from gap.0) t || (nat_le next t && nat_lt t b.upper && not (is_in left t)))
    live t = rw (list_any-append (is_within t) ranges (range_of from gap.0), in_range_of from gap.0 t)
        (joined (is_in ranges t) _ _ _ (step gap.0 gap.1 b.upper t (is_in left t) some within
        (none_earlier t gap left up) next e))

pub walked_all : (b : Buffer) (from : ℕ) (ranges new : List (ℕ × ℕ)) → new ≡ ranges ++ range_of from b.upper →
    IsWalked b [] from ranges → AreLiveRanges b new
walked_all b from ranges new f h = rw f
    (record { apart = apart (below_or_from from b.upper); live = λ t. h.live t ∙ live t })
  where
    apart : (from < b.upper) ⊎ (b.upper ≤ from) → AreApartFrom 0 (ranges ++ range_of from b.upper)
    apart (inl lt) = rw (some_range from b.upper lt) (h.apart b.upper lt)
    apart (inr le) =
        rw (no_range from b.upper le, append-nil)
        (fewer 0 ranges ((from, from + 1) ∷ []) (h.apart (from + 1) (omega arith)))

    outside : (p q : Bool) → (p || (q && true)) ≡ (p || q)
    outside true q = refl
    outside false true = refl
    outside false false = refl

    live : (t : ℕ) → (is_in ranges t || (nat_le from t && nat_lt t b.upper && true))
        ≡ is_in (ranges ++ range_of from b.upper) t
    live t = rw (list_any-append (is_within t) ranges (range_of from b.upper), in_range_of from b.upper t)
        (outside (is_in ranges t) (nat_le from t && nat_lt t b.upper))

-- ---- with the gaps in order and a place in them
pub walked_more : (b : Buffer) (sorted : List (ℕ × ℕ)) (i from next : ℕ) (ranges new : List (ℕ × ℕ)) →
    All (IsInside b.lower b.upper) b.gaps → IsPermutation b.gaps sorted →
    IsNonDecreasingBy (λ (g : ℕ × ℕ). g.0) sorted →
    i < length sorted → next ≡ max from (get_or sorted i (0, 0)).1 →
    new ≡ ranges ++ range_of from (get_or sorted i (0, 0)).0 →
    IsWalked b (drop i sorted) from ranges → IsWalked b (drop (i + 1) sorted) next new
walked_more b sorted i from next ranges new inside same rising lt e f h =
    let one = All-permutation (IsInside b.lower b.upper) b.gaps sorted same inside i (0, 0) lt in
    let d = drop_more sorted i (0, 0) lt in
    walked_on b (get_or sorted i (0, 0)) (drop (i + 1) sorted) from next ranges new one.not_empty one.to_upper
    (rw d at (IsNonDecreasingBy-drop (λ (g : ℕ × ℕ). g.0) i sorted rising)) e f (rw d at h)

pub walked_through : (b : Buffer) (sorted : List (ℕ × ℕ)) (i from : ℕ) (ranges new : List (ℕ × ℕ)) →
    length sorted ≤ i → new ≡ ranges ++ range_of from b.upper → IsWalked b (drop i sorted) from ranges →
    AreLiveRanges b new
walked_through b sorted i from ranges new le f h = walked_all b from ranges new f (rw (drop_all i sorted le) at h)

-- ---- whether there is a live moment at all
pub never_within : (b : Buffer) (ranges : List (ℕ × ℕ)) → AreLiveRanges b ranges → (length ranges == 0) ≡ true →
    is_ever_live b ≡ false
never_within b [] h e = is_never b (λ t le. h.live t)
never_within b (r ∷ rs) h e = absurd (let k = equal (length (r ∷ rs)) 0 e in omega arith)

pub ever_within : (b : Buffer) (ranges : List (ℕ × ℕ)) → AreLiveRanges b ranges → (length ranges == 0) ≡ false →
    is_ever_live b ≡ true
ever_within b [] h e = absurd (differ 0 0 e refl)
ever_within b (r ∷ rs) h e = is_ever b r.0 (h.live r.0 ∙ in_first r.0 r rs (omega arith) h.apart.1)

-- size, alignment and lowest say nothing of time
pub whatever_size : (lower upper size alignment : ℕ) (gaps : List (ℕ × ℕ)) (lowest : ℕ) (ranges : List (ℕ × ℕ)) →
    AreLiveRanges (lasting lower upper gaps) ranges →
    AreLiveRanges (buffer_of lower upper size alignment gaps lowest) ranges
unfolding is_live
whatever_size lower upper size alignment gaps lowest ranges h = record { apart = h.apart; live = h.live }
