-- Lists that rise, by looking at neighbours.
use Rattle.std.proofs.Common.{◌≡◌, inl, inr, ℕ, zero, suc, ◌<◌, ◌≤◌, List, [], ◌∷◌, map, length, drop, get_or, refl, sym, ◌∙◌, subst, arith}
use Rattle.dsa_terms.specs.Claims.{IsIn, Rises}

-- a lower number may stand before a list that rises
lower_before : (x y : ℕ) (ys : List ℕ) → x < y → Rises (y ∷ ys) → Rises (x ∷ y ∷ ys)
lower_before x y ys l h = (λ z i. elim i [ inl e ↦ below e | inr j ↦ above z j ], h)
  where
    below : {z : ℕ} → z ≡ y → x < z
    below e = omega arith

    above : (z : ℕ) → IsIn z ys → x < z
    above z j = let k : y < z = h.0 z j in omega arith

pub rise_step : {X : Type 0} (f : X → ℕ) (xs : List X) (k : ℕ) (d : X) → suc k < length xs →
    f (get_or xs k d) < f (get_or xs (suc k) d) →
    Rises (map f (drop (suc k) xs)) → Rises (map f (drop k xs))
rise_step f [] k d l n h = absurd (omega arith)
rise_step f (x ∷ []) zero d l n h = absurd (omega arith)
rise_step f (x ∷ y ∷ ys) zero d l n h = lower_before (f x) (f y) (map f ys) n h
rise_step f (x ∷ xs) (suc k) d l n h = rise_step f xs k d (omega arith) n h

pub rise_pair : {X : Type 0} (f : X → ℕ) (xs : List X) (k : ℕ) (d : X) → suc k < length xs → Rises (map f xs) →
    f (get_or xs k d) < f (get_or xs (suc k) d)
rise_pair f [] k d l h = absurd (omega arith)
rise_pair f (x ∷ []) zero d l h = absurd (omega arith)
rise_pair f (x ∷ y ∷ ys) zero d l h = h.0 (f y) (inl refl)
rise_pair f (x ∷ xs) (suc k) d l h = rise_pair f xs k d (omega arith) h.1

pub rise_end : {X : Type 0} (f : X → ℕ) (xs : List X) (k : ℕ) → length xs ≤ suc k → Rises (map f (drop k xs))
rise_end f [] zero h = tt
rise_end f [] (suc k) h = tt
rise_end f (x ∷ []) zero h = (λ y i. absurd i, tt)
rise_end f (x ∷ y ∷ ys) zero h = absurd (omega arith)
rise_end f (x ∷ xs) (suc k) h = rise_end f xs k (omega arith)

-- the same at a place and the one before it
pub rise_back : {X : Type 0} (f : X → ℕ) (xs : List X) (place before next : ℕ) (d : X) → place ≡ suc before →
    next ≡ place → place < length xs → f (get_or xs before d) < f (get_or xs place d) →
    Rises (map f (drop next xs)) → Rises (map f (drop before xs))
rise_back f xs place before next d e q l n h =
    rise_step f xs before d (omega arith) (subst (λ (p : ℕ). f (get_or xs before d) < f (get_or xs p d)) e n)
    (subst (λ (p : ℕ). Rises (map f (drop p xs))) (q ∙ e) h)

pub rise_there : {X : Type 0} (f : X → ℕ) (xs : List X) (place before : ℕ) (d : X) → place ≡ suc before →
    place < length xs → Rises (map f xs) → f (get_or xs before d) < f (get_or xs place d)
rise_there f xs place before d e l h = subst (λ (p : ℕ). f (get_or xs before d) < f (get_or xs p d)) (sym e)
    (rise_pair f xs before d (omega arith) h)
