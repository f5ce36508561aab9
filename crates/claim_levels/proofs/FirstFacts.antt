-- Worked facts: a buffer of size 3 beside one of size 1 that stands at multiples of 4 alone. Which of them comes first,
-- and which are left.
use Rattle.std.proofs.Common.{◌≡◌, ◌⊎◌, ℕ, zero, suc, ◌<◌, ◌≤◌, [], ◌∷◌, slice_index, inl, inr, refl, sym, ap, ◌∙◌, subst, arith}
use Rattle.claim_levels.proofs.Words.{buffer, small_below, Entry, IsIn, up}
use Rattle.claim_levels.specs.Firsts.{IsBefore, IsFirst}
use Rattle.claim_levels.specs.Levels.{AreLeft, IsLeastLevel}
use Rattle.claim_levels.proofs.LevelFacts.{root}

-- ---- the order of buffers
-- the bound 3 of the aligned one is met at 4
lower_before_higher : IsBefore small_below (0, 3) (1, 3)
unfolding up buffer
lower_before_higher = inl (omega arith)

as_low_by_number : IsBefore small_below (0, 0) (1, 0)
unfolding up buffer
as_low_by_number = inr (refl, omega arith)

not_by_number_back : IsBefore small_below (1, 0) (0, 0) → ⊥
unfolding up buffer
not_by_number_back (inl lt) = omega (arith, lt)
not_by_number_back (inr r) = let k = r.1 in omega (arith, k)

not_itself : (e : Entry) → IsBefore small_below e e → ⊥
not_itself e (inl lt) = omega (arith, lt)
not_itself e (inr r) = let k = r.1 in omega (arith, k)

first_of_both : IsFirst small_below root 0
first_of_both = record { f = (0, 0); among = inl refl; is = refl; before = before }
  where
    before : (e : Entry) → IsIn e root → (e ≡ (0, 0)) ⊎ IsBefore small_below (0, 0) e
    before e (inl q) = inl q
    before e (inr (inl q)) = inr (subst (IsBefore small_below (0, 0)) (sym q) as_low_by_number)
    before e (inr (inr z)) = absurd z

not_the_second : IsFirst small_below root 1 → ⊥
not_the_second h = elim h.among [
  | inl q ↦ (let k = h.is in let n = ap (λ (e : Entry). e.0) q in omega (arith, k, n))
  | inr r ↦ elim r [
    | inl q ↦ elim (h.before (0, 0) (inl refl)) [
      | inl p ↦ (let n = ap (λ (e : Entry). e.0) (p ∙ q) in omega (arith, n))
      | inr b ↦ not_by_number_back (subst (λ (e : Entry). IsBefore small_below e (0, 0)) q b)
    ]
    | inr z ↦ z
  ]
]

-- ---- the least level
first_of_two : IsLeastLevel (1 ∷ 1 ∷ []) 0
first_of_two = record { some = λ c more. omega arith; before = before }
  where
    before : (c : ℕ) → 0 < slice_index (1 ∷ 1 ∷ []) c →
        (1 < slice_index (1 ∷ 1 ∷ []) c) ⊎ ((1 ≡ slice_index (1 ∷ 1 ∷ []) c) × (0 ≤ c))
    before zero more = inr (refl, omega arith)
    before (suc zero) more = inr (refl, omega arith)
    before (suc (suc c)) more = absurd (omega arith)

not_second_of_two : IsLeastLevel (1 ∷ 1 ∷ []) 1 → ⊥
not_second_of_two h = elim (h.before 0 (omega arith)) [
  | inl lt ↦ omega (arith, lt)
  | inr r ↦ (let k = r.1 in omega (arith, k))
]

not_without_a_level : IsLeastLevel (0 ∷ 5 ∷ []) 0 → ⊥
not_without_a_level h = let k = h.some 1 (omega arith) in omega (arith, k)

-- ---- the buffers that are left
pub second_alone : AreLeft (0 ∷ 5 ∷ []) (1 ∷ [])
second_alone = record { rises = ((λ y i. absurd i), tt); some = some; all = all }
  where
    some : (c : ℕ) → IsIn c (1 ∷ []) → 0 < slice_index (0 ∷ 5 ∷ []) c
    some c (inl p) = let k = ap (slice_index (0 ∷ 5 ∷ [])) p in omega (arith, k)
    some c (inr z) = absurd z

    all : (c : ℕ) → 0 < slice_index (0 ∷ 5 ∷ []) c → IsIn c (1 ∷ [])
    all zero lt = absurd (omega arith)
    all (suc zero) lt = inl refl
    all (suc (suc c)) lt = absurd (omega arith)

not_none_left : AreLeft (0 ∷ 5 ∷ []) [] → ⊥
not_none_left h = h.all 1 (omega arith)

not_both_left : AreLeft (0 ∷ 5 ∷ []) (0 ∷ 1 ∷ []) → ⊥
not_both_left h = let k = h.some 0 (inl refl) in omega (arith, k)

not_falling : AreLeft (1 ∷ 1 ∷ []) (1 ∷ 0 ∷ []) → ⊥
not_falling h = let k = h.rises.0 0 (inl refl) in omega (arith, k)
