-- One modulus after another, with the best bound so far.
use Rattle.std.proofs.Common.{◌≡◌, ℕ, zero, suc, ◌+◌, ◌<◌, ◌≤◌, ◌⊎◌, inl, inr, List, [], ◌∷◌, ◌++◌, length, take, slice_index, refl, sym, ap, ◌∙◌, subst, arith}
use Rattle.dsa_terms.specs.Buffers.{Instance}
use Rattle.dsa_terms.specs.Claims.{IsIn, Rises}
use Rattle.dsa_terms.proofs.Lists.{from_append, left_append, right_append}
use Rattle.dsa_terms.proofs.Places.{in_at}
use Rattle.std.proofs.lemmas.List.{take_all}
use Rattle.lifetime.specs.SectionList.{SectionList, count_of}
use Rattle.lower_bounds.specs.Best.{IsBest, IsFirstToReach, IsRaised, no_bound, stack_at}
use Rattle.lower_bounds.specs.declared.value.Bound.{Bound}

take_more : (xs : List ℕ) (q : ℕ) → q < length xs → take (q + 1) xs ≡ take q xs ++ slice_index xs q ∷ []
take_more [] q lt = absurd (omega arith)
take_more (x ∷ xs) zero lt = refl
take_more (x ∷ xs) (suc q) lt = let e : suc q + 1 ≡ suc (q + 1) = omega arith in rw e
    (ap (λ ys. x ∷ ys) (take_more xs q (omega arith)))

taken_less : (xs : List ℕ) (q x : ℕ) → Rises xs → q < length xs → IsIn x (take q xs) → x < slice_index xs q
taken_less [] q x r lt i = absurd (omega arith)
taken_less (y ∷ ys) zero x r lt i = absurd i
taken_less (y ∷ ys) (suc q) x r lt (inl e) = let k : y < slice_index ys q = r.0 (slice_index ys q)
    (in_at ys q 0 (omega arith)) in omega arith
taken_less (y ∷ ys) (suc q) x r lt (inr i) = taken_less ys q x r.1 (omega arith) i

module _ (I : Instance) (S : SectionList) (candidates : List ℕ) (q G : ℕ) (old new : Bound) (rises : Rises candidates)
    (lt : q < length candidates) (at : G ≡ slice_index candidates q)
    (best : IsBest I S (take q candidates) old) (raised : IsRaised I S G (count_of S) old new) where
  below : (H : ℕ) → IsIn H (take q candidates) → H < G
  below H i = let k = taken_less candidates q H rises lt i in omega arith

  one_more : take (q + 1) candidates ≡ take q candidates ++ G ∷ []
  one_more = take_more candidates q lt ∙ ap (λ x. take q candidates ++ x ∷ []) (sym at)

  which : (H : ℕ) → IsIn H (take q candidates ++ G ∷ []) → IsIn H (take q candidates) ⊎ (H ≡ G)
  which H i = elim (from_append (take q candidates) (G ∷ []) H i)
      [ inl j ↦ inl j | inr j ↦ elim j [ inl e ↦ inr e | inr k ↦ absurd k ] ]

  kept : new ≡ old → IsBest I S (take q candidates ++ G ∷ []) old
  kept e = record { most = most; found = found; least = least }
    where
      most : (H s : ℕ) → IsIn H (take q candidates ++ G ∷ []) → s < count_of S → stack_at I S H s ≤ old.capacity
      most H s i sn = elim (which H i) [
        | inl j ↦ best.most H s j sn
        | inr f ↦ (
            let k = raised.most s sn in let c : new.capacity ≡ old.capacity = ap (λ (b : Bound). b.capacity) e in
            let d : stack_at I S H s ≡ stack_at I S G s = ap (λ H. stack_at I S H s) f in omega arith)
      ]

      found : (old ≡ no_bound) ⊎ ((0 < old.capacity) × IsIn old.modulus (take q candidates ++ G ∷ []) × IsFirstToReach
          I S old.modulus (count_of S) old)
      found = elim best.found [
        | inl f ↦ inl f
        | inr f ↦ inr
            (f.0, left_append (take q candidates) (G ∷ []) old.modulus f.1, f.2)
      ]

      least : (H s : ℕ) → IsIn H (take q candidates ++ G ∷ []) → H < old.modulus → s < count_of S →
          (old ≡ no_bound) ⊎ (stack_at I S H s < old.capacity)
      least H s i less sn = elim (which H i) [
        | inl j ↦ best.least H s j less sn
        | inr f ↦ elim best.found [ inl g ↦ inl g | inr g ↦ absurd (let k = below old.modulus g.1 in omega arith) ]
      ]

  risen : (old.capacity < new.capacity) → new.modulus ≡ G → IsFirstToReach I S G (count_of S) new →
      IsBest I S (take q candidates ++ G ∷ []) new
  risen more mine first = record { most = most; found = found; least = least }
    where
      most : (H s : ℕ) → IsIn H (take q candidates ++ G ∷ []) → s < count_of S → stack_at I S H s ≤ new.capacity
      most H s i sn = elim (which H i) [
        | inl j ↦ (let k = best.most H s j sn in omega arith)
        | inr f ↦ (let k = raised.most s sn in let d : stack_at I S H s ≡ stack_at I S G s = ap (λ H. stack_at I S H s)
            f in omega arith)
      ]

      found : (new ≡ no_bound) ⊎ ((0 < new.capacity) × IsIn new.modulus (take q candidates ++ G ∷ []) × IsFirstToReach
          I S new.modulus (count_of S) new)
      found = inr (
        omega arith,
        right_append (take q candidates) (G ∷ []) new.modulus (inl mine),
        subst
            (λ (H : ℕ). IsFirstToReach I S H (count_of S) new) (sym mine) first,
      )

      least : (H s : ℕ) → IsIn H (take q candidates ++ G ∷ []) → H < new.modulus → s < count_of S →
          (new ≡ no_bound) ⊎ (stack_at I S H s < new.capacity)
      least H s i less sn = elim (which H i) [
        | inl j ↦ inr (let k = best.most H s j sn in omega arith)
        | inr f ↦ absurd
            (omega arith)
      ]

  pub best_more : IsBest I S (take (q + 1) candidates) new
  best_more = rw one_more (elim raised.found [
    | inl e ↦ subst (λ (b : Bound). IsBest I S (take q candidates ++ G ∷ []) b) (sym e) (kept e)
    | inr r ↦ risen r.0 r.1 r.2
  ])

pub best_all : (I : Instance) (S : SectionList) (candidates : List ℕ) (q : ℕ) (b : Bound) → length candidates ≤ q →
    IsBest I S (take q candidates) b → IsBest I S candidates b
best_all I S candidates q b le h = rw (take_all q candidates le) at h
