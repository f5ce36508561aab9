-- The levels of a claim are all there are.
use Rattle.std.proofs.Common.{◌≡◌, ℕ, ◌+◌, ◌<◌, ◌==◌, Bool, true, false, cond, List, [], ◌∷◌, length, slice_index_or, inl, inr, refl, sym, ap, ◌∙◌, arith, ext_get_or}
use Rattle.std.proofs.lemmas.List.FromFn.{get_or-map-range_with_len, length-map-range_with_len}
use Rattle.claim_levels.proofs.Words.{Instance, Claim, IsClaim, number_of, up, equal, same, HasBuffer, entry_of, AreLevels, has_or_not}
use Rattle.claim_levels.specs.Levels.{level_of, levels_of}

level_inside : (I : Instance) (l : Claim) (b : ℕ) → HasBuffer l b → level_of I l b ≡ up I (entry_of l b) + 1
level_inside I [] b h = absurd h
level_inside I (e ∷ es) b h = go (level_inside I es b) (e.0 == b) refl
  where
    go : (HasBuffer es b → level_of I es b ≡ up I (entry_of es b) + 1) → (t : Bool) → (e.0 == b) ≡ t →
        cond t (up I e + 1) (level_of I es b) ≡ up I (b, cond t e.1 (number_of es b)) + 1
    go ih true q = ap (λ (n : ℕ). up I (n, e.1) + 1) (equal e.0 b q)
    go ih false q = elim h [
      | inl p ↦ absurd (let k = same e.0 b (sym p) in let r = sym q ∙ k in cc)
      | inr i ↦ ih i
    ]

level_outside : (I : Instance) (l : Claim) (b : ℕ) → (HasBuffer l b → ⊥) → level_of I l b ≡ 0
level_outside I [] b n = refl
level_outside I (e ∷ es) b n = go (level_outside I es b (λ i. n (inr i))) (e.0 == b) refl
  where
    go : level_of I es b ≡ 0 → (t : Bool) → (e.0 == b) ≡ t → cond t (up I e + 1) (level_of I es b) ≡ 0
    go ih true q = absurd (n (inl (sym (equal e.0 b q))))
    go ih false q = ih

pub levels_are : (I : Instance) (l : Claim) (levels : List ℕ) → AreLevels I l levels → levels ≡ levels_of I l
levels_are I l levels h =
    ext_get_or 0 levels (levels_of I l) (h.count ∙ sym (length-map-range_with_len (level_of I l) 0 (length I))) each
  where
    each : (b : ℕ) → b < length levels → slice_index_or levels b 0 ≡ slice_index_or (levels_of I l) b 0
    each b lt =
        let within : b < length I = (let k = h.count in omega arith) in
        let made : slice_index_or (levels_of I l) b 0 ≡ level_of I l b =
        get_or-map-range_with_len (level_of I l) 0 (length I) b b 0 within (omega arith) in
        elim (has_or_not l b) [
          | inl i ↦ (h.each b within).inside i ∙ sym (level_inside I l b i) ∙ sym made
          | inr n ↦ (h.each b within).outside n ∙ sym (level_outside I l b n) ∙ sym made
        ]

-- and these are levels of the claim
pub levels_of_are : (I : Instance) (l : Claim) → IsClaim I l → AreLevels I l (levels_of I l)
levels_of_are I l claim = record {
  claim = claim;
  count = length-map-range_with_len (level_of I l) 0 (length I);
  each = λ b within.
      let made : slice_index_or (levels_of I l) b 0 ≡ level_of I l b =
      get_or-map-range_with_len (level_of I l) 0 (length I) b b 0 within (omega arith) in
      record {
        inside = λ i. made ∙ level_inside I l b i;
        outside = λ n. made ∙ level_outside I l b n;
      };
}
