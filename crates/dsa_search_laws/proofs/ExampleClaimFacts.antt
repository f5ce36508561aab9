-- Numbers that rise, claims, sound buffers and instances, least weight: what holds of small ones, and what does not.
use Rattle.std.proofs.Common.{◌≡◌, ℕ, List, zero, suc, ◌+◌, ◌≤◌, ◌<◌, inl, inr, [], ◌∷◌, slice_index_or, refl, sym, ap, subst, arith}
use Rattle.dsa_terms.specs.Buffers.{Buffer, IsSound, IsInstance, buffer}
use Rattle.dsa_terms.specs.Claims.{Entry, Claim, IsClaim, IsIn, IsPlacement, Rises, number_of}
use Rattle.dsa_terms.specs.Layouts.{IsMultiple}
use Rattle.dsa_terms.proofs.Examples.{plain, evens}
use Rattle.dsa_search_laws.specs.Placements.{IsFirst, weight, IsSettled}
use Rattle.dsa_search_laws.proofs.Weights.{lightest_is_settled}

-- ---- rising numbers
one_two : Rises (1 ∷ 2 ∷ [])
one_two = (above, (λ y i. absurd i, tt))
  where
    above : (y : ℕ) → IsIn y (2 ∷ []) → 1 < y
    above y (inl q) = rw q (omega arith)
    above y (inr i) = absurd i

none_twice : Rises (1 ∷ 1 ∷ []) → ⊥
none_twice h = let k : 1 < 1 = h.0 1 (inl refl) in omega arith

none_falls : Rises (2 ∷ 1 ∷ []) → ⊥
none_falls h = let k : 2 < 1 = h.0 1 (inl refl) in omega arith

-- ---- claims
two_of_three : IsClaim evens ((1, 1) ∷ (2, 1) ∷ [])
two_of_three = record { rises = one_two; in_range = within }
  where
    within : (e : Entry) → IsIn e ((1, 1) ∷ (2, 1) ∷ []) → e.0 < 3
    within e (inl q) = let k : e.0 ≡ 1 = ap (λ (e : Entry). e.0) q in omega arith
    within e (inr (inl q)) = let k : e.0 ≡ 2 = ap (λ (e : Entry). e.0) q in omega arith
    within e (inr (inr i)) = absurd i

no_fourth : IsClaim evens ((3, 0) ∷ []) → ⊥
no_fourth h = let k : 3 < 3 = h.in_range (3, 0) (inl refl) in omega arith

no_two_bounds : IsClaim evens ((1, 1) ∷ (1, 2) ∷ []) → ⊥
no_two_bounds h = none_twice h.rises

-- ---- sound buffers
even_is_sound : IsSound (plain 0 1 1 2)
even_is_sound = (omega arith, omega arith, omega arith)

no_size : IsSound (plain 0 1 0 1) → ⊥
no_size h = let k : 1 ≤ 0 = h.0 in omega arith

no_alignment : IsSound (plain 0 1 1 0) → ⊥
no_alignment h = let k : 1 ≤ 0 = h.1 in omega arith

empty_lifetime : IsSound (plain 1 1 1 1) → ⊥
empty_lifetime h = let k : 1 < 1 = h.2 in omega arith

-- ---- sound instances
evens_are_sound : IsInstance evens
evens_are_sound = each
  where
    each : (k : ℕ) (d : Buffer) → k < 3 → IsSound (slice_index_or evens k d)
    each zero d lt = even_is_sound
    each (suc zero) d lt = even_is_sound
    each (suc (suc zero)) d lt = (omega arith, omega arith, omega arith)
    each (suc (suc (suc k))) d lt = absurd (omega arith)

-- the second buffer has no size
not_each_is_sound : IsInstance (plain 0 1 1 2 ∷ plain 0 1 0 1 ∷ []) → ⊥
not_each_is_sound h = no_size (h 1 (plain 0 1 1 1) (omega arith))

-- ---- least weight: the third buffer alone, with the bound 1, stands at 1 in a placement of least weight
abbrev third : Claim
third = (2, 1) ∷ []

third_alone : IsClaim evens third
third_alone = record { rises = (λ y i. absurd i, tt); in_range = within }
  where
    within : (e : Entry) → IsIn e third → e.0 < 3
    within e (inl q) = let k : e.0 ≡ 2 = ap (λ (e : Entry). e.0) q in omega arith
    within e (inr i) = absurd i

third_at_1 : IsPlacement evens 5 third third
unfolding buffer
third_at_1 = record {
  same_buffers = refl;
  places = record {
    aligned = λ e i. one e (λ e. IsMultiple (number_of third e.0) (buffer evens e.0).alignment) refl i;
    above = λ e i. one e (λ e. e.1 ≤ number_of third e.0) (omega arith) i;
    within = λ e i. one e (λ e. number_of third e.0 + (buffer evens e.0).size ≤ 5) (omega arith) i;
    apart = λ e f t i j n l m. absurd (n (one e (λ e. e.0 ≡ f.0) (one f (λ f. 2 ≡ f.0) refl j) i));
  };
}
  where
    one : (e : Entry) (P : Entry → Type 0) → P (2, 1) → IsIn e third → P e
    one e P p (inl q) = subst P (sym q) p
    one e P p (inr i) = absurd i

third_is_first : IsFirst third (number_of third) (2, 1)
third_is_first = record { is_in = inl refl; lowest = lowest; least = least }
  where
    lowest : (f : Entry) → IsIn f third → number_of third 2 ≤ number_of third f.0
    lowest f (inl q) = rw q (omega arith)
    lowest f (inr i) = absurd i

    least : (f : Entry) → IsIn f third → number_of third 2 ≡ number_of third f.0 → 2 ≤ f.0
    least f (inl q) h = rw q (omega arith)
    least f (inr i) h = absurd i

lightest : (others : List Entry) → IsPlacement evens 5 third others →
    weight evens (number_of third) third ≤ weight evens (number_of others) third
lightest others h = let k : 1 ≤ number_of others 2 = h.places.above (2, 1) (inl refl) in omega arith

third_is_settled : IsSettled evens 5 third (number_of third) (2, 1)
third_is_settled =
    lightest_is_settled evens 5 third third (2, 1) evens_are_sound third_alone third_at_1 third_is_first lightest
