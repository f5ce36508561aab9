-- The moments that lie in a range of both of two lists.
use Rattle.std.proofs.Common.{◌≡◌, ℕ, ◌+◌, ◌<◌, ◌≤◌, ◌⊎◌, inl, inr, Bool, false, max, ◌&&◌, List, [], ◌∷◌, drop, get_or, length, Option, Some, None, is_some, refl, ap, sym, ◌∙◌, arith}
use Rattle.std.proofs.lemmas.List.{drop_more}
use Rattle.dsa_terms.proofs.NumberTests.{below_or_from}
use Rattle.dsa_terms.specs.Buffers.{Buffer, do_share, is_live}
use Rattle.dsa_model.specs.LiveRanges.{AreApartFrom, AreLiveRanges, is_in}
use Rattle.dsa_model.specs.Moments.{IsLeastFrom, IsLeastMoment}
use Rattle.dsa_model.proofs.Live.{both_live, common_at, never_common, nor_both, not_both}
use Rattle.dsa_model.proofs.LiveRanges.{from_earlier, in_first, past_first, not_in_before_first}

-- both hold the moment
abbrev pub are_in : List (ℕ × ℕ) → List (ℕ × ℕ) → ℕ → Bool
are_in mine theirs t = is_in mine t && is_in theirs t

-- the ranges that are left have all moments that the lists have in common
pub record AreLeft (mine theirs left other_left : List (ℕ × ℕ)) : Type 0 where
  pub apart : AreApartFrom 0 left
  pub other_apart : AreApartFrom 0 other_left
  pub same : (t : ℕ) → are_in mine theirs t ≡ are_in left other_left t

pub all_left : (mine theirs : List (ℕ × ℕ)) → AreApartFrom 0 mine → AreApartFrom 0 theirs →
    AreLeft mine theirs mine theirs
all_left mine theirs h k = record { apart = h; other_apart = k; same = λ t. refl }

-- the range that ends first shares nothing
without_mine : (x y : ℕ × ℕ) (xs ys : List (ℕ × ℕ)) → AreApartFrom 0 (y ∷ ys) → x.1 ≤ y.0 → (t : ℕ) →
    are_in (x ∷ xs) (y ∷ ys) t ≡ are_in xs (y ∷ ys) t
without_mine x y xs ys h le t = elim (below_or_from t y.0) [
  | inl lt ↦ let e = not_in_before_first 0 t y ys h lt in nor_both _ _ e ∙ sym (nor_both _ _ e)
  | inr l ↦ ap (λ c. c && is_in (y ∷ ys) t) (past_first t x xs (omega arith))
]

without_theirs : (x y : ℕ × ℕ) (xs ys : List (ℕ × ℕ)) → AreApartFrom 0 (x ∷ xs) → y.1 ≤ x.0 → (t : ℕ) →
    are_in (x ∷ xs) (y ∷ ys) t ≡ are_in (x ∷ xs) ys t
without_theirs x y xs ys h le t = elim (below_or_from t x.0) [
  | inl lt ↦ let e = not_in_before_first 0 t x xs h lt in not_both _ _ e ∙ sym (not_both _ _ e)
  | inr l ↦ ap (λ c. is_in (x ∷ xs) t && c) (past_first t y ys (omega arith))
]

pub drop_mine : (mine theirs : List (ℕ × ℕ)) (x y : ℕ × ℕ) (xs ys : List (ℕ × ℕ)) → x.1 ≤ y.0 →
    AreLeft mine theirs (x ∷ xs) (y ∷ ys) → AreLeft mine theirs xs (y ∷ ys)
drop_mine mine theirs x y xs ys le h = record {
  apart = from_earlier 0 (x.1 + 1) xs (omega arith) h.apart.2;
  other_apart = h.other_apart;
  same = λ t. h.same t ∙ without_mine x y xs ys h.other_apart le t;
}

pub drop_theirs : (mine theirs : List (ℕ × ℕ)) (x y : ℕ × ℕ) (xs ys : List (ℕ × ℕ)) → y.1 ≤ x.0 →
    AreLeft mine theirs (x ∷ xs) (y ∷ ys) → AreLeft mine theirs (x ∷ xs) ys
drop_theirs mine theirs x y xs ys le h = record {
  apart = h.apart;
  other_apart = from_earlier 0 (y.1 + 1) ys (omega arith) h.other_apart.2;
  same = λ t. h.same t ∙ without_theirs x y xs ys h.apart le t;
}

-- where the first two meet, their first common moment is that of all
pub least_in_both : (mine theirs : List (ℕ × ℕ)) (x y : ℕ × ℕ) (xs ys : List (ℕ × ℕ)) (s : ℕ) → s ≡ max x.0 y.0 →
    s < x.1 → s < y.1 → AreLeft mine theirs (x ∷ xs) (y ∷ ys) → IsLeastFrom (are_in mine theirs) 0 s
least_in_both mine theirs x y xs ys s e l m h = record {
  not_before = omega arith;
  holds = h.same s ∙ both_live _ _ (in_first s x xs (omega arith) l) (in_first s y ys (omega arith) m);
  least = λ t from lt. h.same t ∙ before t (either t lt);
}
  where
    either : (t : ℕ) → t < s → (t < x.0) ⊎ (t < y.0)
    either t lt = grind arith

    before : (t : ℕ) → (t < x.0) ⊎ (t < y.0) → are_in (x ∷ xs) (y ∷ ys) t ≡ false
    before t (inl lt) = not_both _ _ (not_in_before_first 0 t x xs h.apart lt)
    before t (inr lt) = nor_both _ _ (not_in_before_first 0 t y ys h.other_apart lt)

-- where one list has nothing left, nothing is common
pub none_mine : (mine theirs other_left : List (ℕ × ℕ)) → AreLeft mine theirs [] other_left → (t : ℕ) → 0 ≤ t →
    are_in mine theirs t ≡ false
none_mine mine theirs other_left h t le = h.same t

pub none_theirs : (mine theirs left : List (ℕ × ℕ)) → AreLeft mine theirs left [] → (t : ℕ) → 0 ≤ t →
    are_in mine theirs t ≡ false
none_theirs mine theirs left h t le = h.same t ∙ nor_both _ _ refl

-- ---- with places in both lists
pub more_mine : (mine theirs : List (ℕ × ℕ)) (m n : ℕ) → m < length mine → n < length theirs →
    (get_or mine m (0, 0)).1 ≤ (get_or theirs n (0, 0)).0 → AreLeft mine theirs (drop m mine) (drop n theirs) →
    AreLeft mine theirs (drop (m + 1) mine) (drop n theirs)
more_mine mine theirs m n lm ln le h =
    rw (drop_more theirs n (0, 0) ln) (drop_mine mine theirs (get_or mine m (0, 0)) (get_or theirs n (0, 0))
    (drop (m + 1) mine) (drop (n + 1) theirs) le (rw (drop_more mine m (0, 0) lm, drop_more theirs n (0, 0) ln) at h))

pub more_theirs : (mine theirs : List (ℕ × ℕ)) (m n : ℕ) → m < length mine → n < length theirs →
    (get_or theirs n (0, 0)).1 ≤ (get_or mine m (0, 0)).0 → AreLeft mine theirs (drop m mine) (drop n theirs) →
    AreLeft mine theirs (drop m mine) (drop (n + 1) theirs)
more_theirs mine theirs m n lm ln le h =
    rw (drop_more mine m (0, 0) lm) (drop_theirs mine theirs (get_or mine m (0, 0)) (get_or theirs n (0, 0))
    (drop (m + 1) mine) (drop (n + 1) theirs) le (rw (drop_more mine m (0, 0) lm, drop_more theirs n (0, 0) ln) at h))

pub least_here : (mine theirs : List (ℕ × ℕ)) (m n s : ℕ) → m < length mine → n < length theirs →
    s ≡ max (get_or mine m (0, 0)).0 (get_or theirs n (0, 0)).0 → s < (get_or mine m (0, 0)).1 →
    s < (get_or theirs n (0, 0)).1 → AreLeft mine theirs (drop m mine) (drop n theirs) →
    IsLeastFrom (are_in mine theirs) 0 s
least_here mine theirs m n s lm ln e l k h =
    least_in_both mine theirs (get_or mine m (0, 0)) (get_or theirs n (0, 0)) (drop (m + 1) mine) (drop (n + 1) theirs)
    s e l k (rw (drop_more mine m (0, 0) lm, drop_more theirs n (0, 0) ln) at h)

-- the first of the two ranges has a moment, so where they do not meet it ends before the other begins
pub starts_before : (mine : List (ℕ × ℕ)) (m : ℕ) → m < length mine → AreApartFrom 0 (drop m mine) →
    (get_or mine m (0, 0)).0 < (get_or mine m (0, 0)).1
starts_before mine m lt h = let k = rw (drop_more mine m (0, 0) lt) at h in k.1

-- ---- the moments at which two buffers are live
pub common : (b c : Buffer) (mine theirs : List (ℕ × ℕ)) → AreLiveRanges b mine → AreLiveRanges c theirs → (t : ℕ) →
    (is_live b t && is_live c t) ≡ are_in mine theirs t
common b c mine theirs h k t = rw (h.live t, k.live t) refl

pub shared : (b c : Buffer) (mine theirs : List (ℕ × ℕ)) (s : Option ℕ) → AreLiveRanges b mine →
    AreLiveRanges c theirs →
    IsLeastMoment (are_in mine theirs) 0 s → is_some s ≡ do_share b c
shared b c mine theirs None h k none =
    (never_common b c (λ t. common b c mine theirs h k t ∙ none t (omega arith))).shared
shared b c mine theirs (Some s) h k one = (common_at b c s (record {
  not_before = one.not_before;
  holds = common b c mine theirs h k s ∙ one.holds;
  least = λ t from lt. common b c mine theirs h k t ∙ one.least t from lt;
})).shared
