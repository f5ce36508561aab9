-- Worked facts: a buffer of size 3 beside one of size 1 that stands at multiples of 4 alone. What there may be while
-- the levels of both become those of the child by the first buffer.
use Rattle.std.proofs.Common.{◌≡◌, ◌≢◌, ℕ, zero, suc, ◌<◌, ◌≤◌, List, [], ◌∷◌, length, slice_index, inl, inr, refl, ◌∙◌, sym, ap, subst, arith}
use Rattle.claim_levels.proofs.Words.{buffer, do_share, is_live, some_before, small_below, step, Entry, IsIn, has_level, from_child}
use Rattle.claim_levels.specs.declared.raising.Raising.{Raising}
use Rattle.claim_levels.specs.Raisings.{IsRaised, IsRaising}
use Rattle.claim_levels.proofs.ChildLevels.{level_of_first, level_rises}
use Rattle.claim_levels.proofs.LevelFacts.{root, root_levels}
use Rattle.claim_levels.proofs.TrailFacts.{both, changes, rest}

-- ---- a buffer whose level in the child is written
pub second_raised : IsRaised small_below both 0 rest 1
unfolding step do_share some_before is_live buffer
second_raised more l h =
    level_rises small_below l both 0 h 1 3 4 (has_level small_below l both h 0 (omega arith)) more (other 1 refl) refl
    (omega arith) refl
  where
    other : (c : ℕ) → c ≡ 1 → c ≢ 0
    other c q z = omega (arith, q, z)

first_without : IsRaised small_below both 0 rest 0
first_without more l h = level_of_first small_below l both 0 h

not_both_stay : IsRaised small_below both 0 both 0 → ⊥
not_both_stay h =
    let k = (h (omega arith) root root_levels).outside (λ i. (from_child small_below root 0 0 i).1 refl) in
    omega (arith, k)

-- ---- all of them
module _ (r : Raising) (n : r.numbers.items ≡ rest) (t : r.top ≡ 5) where
  each_at : (P : List ℕ → Type 0) → P rest → P r.numbers.items
  each_at P h = subst P (sym n) h

  all_raised : r.changes.items ≡ changes → IsRaising small_below both 0 r
  all_raised q = record {
    count = each_at (λ (xs : List ℕ). length xs ≡ 2) refl;
    outside = λ c. each_at (λ (xs : List ℕ). slice_index both c ≡ 0 → slice_index xs c ≡ 0) (outside c);
    each = λ c. inr (each_at (λ (xs : List ℕ). IsRaised small_below both 0 xs c) (each c));
    under = λ c. each_at (λ (xs : List ℕ). slice_index xs c ≤ r.top) (let k = under c in omega (arith, k, t));
    limit = omega (arith, t);
    noted = λ c ne. subst (λ (cs : List Entry). IsIn (c, slice_index both c) cs) (sym q)
        (noted c (λ e. ne (ap (λ (xs : List ℕ). slice_index xs c) n ∙ e)));
    were = λ e i. were e (subst (IsIn e) q i);
    some = λ e i. some e (subst (IsIn e) q i);
  }
    where
      outside : (c : ℕ) → slice_index both c ≡ 0 → slice_index rest c ≡ 0
      outside zero z = absurd (omega (arith, z))
      outside (suc zero) z = absurd (omega (arith, z))
      outside (suc (suc c)) z = refl

      each : (c : ℕ) → IsRaised small_below both 0 rest c
      each zero = first_without
      each (suc zero) = second_raised
      each (suc (suc c)) = λ more. absurd (omega (arith, more))

      under : (c : ℕ) → slice_index rest c ≤ 5
      under zero = omega arith
      under (suc zero) = omega arith
      under (suc (suc c)) = omega arith

      noted : (c : ℕ) → slice_index rest c ≢ slice_index both c → IsIn (c, slice_index both c) changes
      noted zero ne = inl refl
      noted (suc zero) ne = inr (inl refl)
      noted (suc (suc c)) ne = absurd (ne refl)

      were : (e : Entry) → IsIn e changes → e.1 ≡ slice_index both e.0
      were e (inl p) = subst (λ (e : Entry). e.1 ≡ slice_index both e.0) (sym p) refl
      were e (inr (inl p)) = subst (λ (e : Entry). e.1 ≡ slice_index both e.0) (sym p) refl
      were e (inr (inr z)) = absurd z

      some : (e : Entry) → IsIn e changes → 0 < slice_index both e.0
      some e (inl p) = subst (λ (e : Entry). 0 < slice_index both e.0) (sym p) (omega arith)
      some e (inr (inl p)) = subst (λ (e : Entry). 0 < slice_index both e.0) (sym p) (omega arith)
      some e (inr (inr z)) = absurd z

  -- the level in the claim is to be noted, and not that in the child
  not_unnoted : r.changes.items ≡ [] → IsRaising small_below both 0 r → ⊥
  not_unnoted q h =
      subst (λ (cs : List Entry). IsIn (0, 1) cs) q (h.noted 0 (differ (ap (λ (xs : List ℕ). slice_index xs 0) n)))
    where
      differ : slice_index r.numbers.items 0 ≡ 0 → slice_index r.numbers.items 0 ≡ 1 → ⊥
      differ p e = omega (arith, p, e)

  not_the_level_below : r.changes.items ≡ (1, 5) ∷ [] → IsRaising small_below both 0 r → ⊥
  not_the_level_below q h =
      let k = h.were (1, 5) (subst (λ (cs : List Entry). IsIn (1, 5) cs) (sym q) (inl refl)) in omega (arith, k)

not_so_low : (r : Raising) → r.numbers.items ≡ rest → r.top ≡ 4 → IsRaising small_below both 0 r → ⊥
not_so_low r n t h = let k = h.under 1 in let p = ap (λ (xs : List ℕ). slice_index xs 1) n in omega (arith, k, p, t)
