-- The moduli in question, sorted.
use Rattle.std.proofs.Common.{◌≡◌, ℕ, zero, suc, ◌+◌, ◌<◌, ◌↔◌, inl, inr, List, [], ◌∷◌, ◌++◌, length, map, slice_index_or, refl, sym, ap, ◌∙◌, arith}
use Rattle.std.specs.List.{All, dedup}
use Rattle.std.specs.List.Sorted.{IsPermutation}
use Rattle.std.proofs.lemmas.List.{length-map}
use Rattle.std.proofs.lemmas.List.FromFn.{fill_by_all, map-range_with_len_more}
use Rattle.std.proofs.lemmas.List.Kept.{Contains-dedup_nat, Contains-from_dedup}
use Rattle.std.proofs.lemmas.List.Sorted.{Contains-permutation, IsPermutation-sym}
use Rattle.dsa_terms.specs.Bounds.{moduli}
use Rattle.dsa_terms.specs.Buffers.{Buffer, Instance, buffer, no_buffer}
use Rattle.dsa_terms.specs.Claims.{IsIn}
use Rattle.dsa_terms.specs.Parts.{numbers}
use Rattle.dsa_terms.proofs.Lists.{from_map}
use Rattle.dsa_terms.proofs.Places.{all_from_in, from_contains, in_from_all, to_contains}
use Rattle.dsa_model.specs.Buffer.{IsBuffer}
use lib.Dec.{eqb}
use Rattle.lower_bounds.specs.Stacks.{IsModulus}

-- the moduli by number
abbrev pub moduli_below : Instance → ℕ → List ℕ
moduli_below I n = 1 ∷ map (λ b. (buffer I b).alignment) (numbers n)

pub moduli_more : (I : Instance) (n : ℕ) (xs ys : List ℕ) (x : Buffer) (a : ℕ) → xs ≡ moduli_below I n →
    x ≡ buffer I n → a ≡ x.alignment → ys ≡ xs ++ a ∷ [] → ys ≡ moduli_below I (n + 1)
moduli_more I n xs ys x a e f g h = let k = map-range_with_len_more (λ b. (buffer I b).alignment) 0 n n (omega arith) in
    h ∙ rw (e, g, f) (ap (λ zs. 1 ∷ zs) (sym k))

pub moduli_are : (I : Instance) → moduli_below I (length I) ≡ moduli I
unfolding moduli buffer
moduli_are I = ap (λ xs. 1 ∷ xs) (sym (fill_by_all (λ b. (buffer I b).alignment) (map (λ (x : Buffer). x.alignment) I)
    (length I) 0 (length-map I (λ (x : Buffer). x.alignment)) (at I)))
  where
    at : (I : Instance) (k : ℕ) → k < length I → slice_index_or (map (λ (x : Buffer). x.alignment) I) k 0 ≡
        (slice_index_or I k no_buffer).alignment
    at [] k lt = absurd (omega arith)
    at (x ∷ xs) zero lt = refl
    at (x ∷ xs) (suc k) lt = at xs k (omega arith)

-- each of them is within the limits
pub one_is_modulus : (I : Instance) → IsIn 1 (moduli I)
unfolding moduli
one_is_modulus I = inl refl

pub is_modulus : (I : Instance) → All IsBuffer I → (G : ℕ) → IsIn G (moduli I) → IsModulus G
unfolding moduli
is_modulus I h G (inl e) = rw e (record { some = omega arith; limit = omega arith })
is_modulus I h G (inr i) =
    let r = from_map (λ (x : Buffer). x.alignment) I G i in
    let b = in_from_all IsBuffer I h r.0 r.1 in
    rw r.2 (record { some = b.sound.1; limit = b.within_alignment })

pub all_moduli : (I : Instance) (found : List ℕ) → All IsBuffer I → ((G : ℕ) → IsIn G found ↔ IsIn G (moduli I)) →
    All IsModulus found
all_moduli I found h same = all_from_in IsModulus found (λ G i. is_modulus I h G ((same G).0 i))

-- what the sorted list has
pub moduli_found : (I : Instance) (n : ℕ) (xs sorted found : List ℕ) → xs ≡ moduli_below I n → n ≡ length I →
    IsPermutation xs sorted → found ≡ dedup eqb sorted →
    (G : ℕ) → IsIn G found ↔ IsIn G (moduli I)
moduli_found I n xs sorted found e m p d G = (
  λ i. rw all at (from_contains xs G (Contains-permutation sorted xs G (IsPermutation-sym xs sorted p)
      (Contains-from_dedup eqb sorted G (rw d at (to_contains found G i))))),
  λ i. from_contains found G (rw d (Contains-dedup_nat sorted G
      (Contains-permutation xs sorted G p (to_contains xs G (rw all i))))),
)
  where
    all : xs ≡ moduli I
    all = e ∙ (ap (moduli_below I) m ∙ moduli_are I)
