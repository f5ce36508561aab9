-- Worked orders of buffers by lower, and lists of parts.
use Rattle.std.proofs.Common.{ℕ, zero, suc, ◌<◌, ◌≤◌, inl, inr, [], ◌∷◌, slice_index_or, refl, lit<, lit≤, arith}
use Rattle.std.proofs.lemmas.List.Elements.{All-cons, All-nil}
use Rattle.dsa_terms.specs.Buffers.{buffer}
use Rattle.dsa_terms.specs.Claims.{IsIn}
use Rattle.split_sections.specs.PartList.{ArePartsKept, IsPart}
use Rattle.split_sections.specs.Sweep.{AreByLower, IsLowerEntry, lower_entry}
use Rattle.split_sections.proofs.ExampleFacts.{not_empty, order, rising_part, three}

-- ---- entries
-- buffer 2 of the three begins at 3
entry_of_third : IsLowerEntry three (3, 2)
unfolding buffer
entry_of_third = record { in_range = omega arith; lower = refl }

of_another_lower : IsLowerEntry three (4, 2) → ⊥
unfolding buffer
of_another_lower e = let k = e.lower in omega arith

of_no_buffer : IsLowerEntry three (0, 3) → ⊥
of_no_buffer e = let k = e.in_range in omega arith

-- ---- orders
by_lower : AreByLower three order
unfolding buffer
by_lower = record {
  sorted = sorted;
  each = All-cons (IsLowerEntry three) (0, 1) ((3, 2) ∷ (5, 0) ∷ [])
      (record { in_range = omega arith; lower = refl })
      (All-cons (IsLowerEntry three) (3, 2) ((5, 0) ∷ [])
      (record { in_range = omega arith; lower = refl })
      (All-cons (IsLowerEntry three) (5, 0) [] (record { in_range = omega arith; lower = refl })
      (All-nil (IsLowerEntry three))));
  complete = complete;
  count = refl;
}
  where
    sorted : (i j : ℕ) (d : ℕ × ℕ) → i ≤ j → j < 3 → (slice_index_or order i d).0 ≤ (slice_index_or order j d).0
    sorted zero zero d le lt = lit≤ tt
    sorted zero (suc zero) d le lt = lit≤ tt
    sorted zero (suc (suc zero)) d le lt = lit≤ tt
    sorted (suc zero) (suc zero) d le lt = lit≤ tt
    sorted (suc zero) (suc (suc zero)) d le lt = lit≤ tt
    sorted (suc (suc zero)) (suc (suc zero)) d le lt = lit≤ tt
    sorted i (suc (suc (suc j))) d le lt = absurd (omega arith)
    sorted (suc i) zero d le lt = absurd (omega arith)
    sorted (suc (suc i)) (suc zero) d le lt = absurd (omega arith)
    sorted (suc (suc (suc i))) (suc (suc zero)) d le lt = absurd (omega arith)

    complete : (b : ℕ) → b < 3 → IsIn (lower_entry three b) order
    complete zero lt = inr (inr (inl refl))
    complete (suc zero) lt = inl refl
    complete (suc (suc zero)) lt = inr (inl refl)
    complete (suc (suc (suc b))) lt = absurd (omega arith)

-- lowers fall
falling : AreByLower three ((3, 2) ∷ (0, 1) ∷ (5, 0) ∷ []) → ⊥
falling o = let k = o.sorted 0 1 (0, 0) (lit≤ tt) (lit< tt) in omega arith

-- one entry is missing
too_few : AreByLower three ((0, 1) ∷ (3, 2) ∷ []) → ⊥
too_few o = let k = o.count in omega arith

-- ---- parts
one_part : ArePartsKept ((0 ∷ 2 ∷ []) ∷ [])
one_part = record { each = All-cons IsPart (0 ∷ 2 ∷ []) [] rising_part (All-nil IsPart); limit = lit< tt }

an_empty_part : ArePartsKept ((0 ∷ 2 ∷ []) ∷ [] ∷ []) → ⊥
an_empty_part p = not_empty (p.each 1 [] (omega arith))
