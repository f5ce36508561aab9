-- The buffers put into the order of their lowers.
use Rattle.std.proofs.Common.{◌≡◌, ℕ, ◌+◌, List, [], ◌∷◌, ◌++◌, length, map, arith, refl, ◌∙◌}
use Rattle.std.specs.List.Sorted.{IsNonDecreasingBy, IsPermutation}
use Rattle.std.proofs.lemmas.List.Sorted.{All-permutation, Contains-permutation, length_permutation}
use Rattle.dsa_terms.specs.Buffers.{Buffer, Instance, buffer}
use Rattle.std.proofs.lemmas.List.FromFn.{length-map-range_with_len, map-range_with_len_more}
use Rattle.dsa_terms.specs.Claims.{IsIn}
use Rattle.dsa_terms.specs.Parts.{numbers}
use Rattle.dsa_terms.proofs.Lists.{from_map, into_map}
use Rattle.dsa_terms.proofs.Places.{all_from_in, from_contains, to_contains}
use Rattle.dsa_terms.proofs.Ranges.{into_range, from_range}
use Rattle.split_sections.specs.Sweep.{AreByLower, IsLowerEntry, lower_entry}

entry_is : (I : Instance) (e : ℕ × ℕ) → IsIn e (map (lower_entry I) (numbers (length I))) → IsLowerEntry I e
entry_is I e i =
    let r = from_map (lower_entry I) (numbers (length I)) e i in
    let k = (from_range (length I) 0 r.0 r.1).1 in
    rw r.2 (record { in_range = omega arith; lower = refl })

pub by_lower_is : (I : Instance) (entries order : List (ℕ × ℕ)) (n : ℕ) → entries ≡ map (lower_entry I) (numbers n) →
    n ≡ length I → IsPermutation entries order →
    IsNonDecreasingBy (λ (e : ℕ × ℕ). e.0) order → AreByLower I order
by_lower_is I entries order n e m p sorted = record {
  sorted = sorted;
  each = All-permutation (IsLowerEntry I) entries order p
      (rw (e, m) (all_from_in (IsLowerEntry I) (map (lower_entry I) (numbers (length I))) (entry_is I)));
  complete = λ b lt. from_contains order (lower_entry I b) (Contains-permutation entries order (lower_entry I b) p
      (rw (e, m) (to_contains (map (lower_entry I) (numbers (length I))) (lower_entry I b)
      (into_map (lower_entry I) (numbers (length I)) b (into_range (length I) 0 b (omega arith) (omega arith))))));
  count = length_permutation entries order p ∙ rw (e, length-map-range_with_len (lower_entry I) 0 n) m;
}

pub pushed : (I : Instance) (b : ℕ) (xs ys : List (ℕ × ℕ)) (low : ℕ) (x : Buffer) →
    xs ≡ map (lower_entry I) (numbers b) → x ≡ buffer I b → low ≡ x.lower → ys ≡ xs ++ (low, b) ∷ [] →
    ys ≡ map (lower_entry I) (numbers (b + 1))
pushed I b xs ys low x e f g h = let k = map-range_with_len_more (lower_entry I) 0 b b (omega arith) in cc
