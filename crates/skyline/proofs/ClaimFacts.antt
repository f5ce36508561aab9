-- Bounds of claims, and the claims of a skyline on which nothing stands.
use Rattle.std.proofs.Common.{◌≡◌, ◌^◌, ◌<◌, inl, inr, [], ◌∷◌, refl, subst, sym, lit<, arith}
use Rattle.dsa_terms.specs.Buffers.{Instance, buffer}
use Rattle.dsa_terms.specs.Claims.{Entry, IsIn}
use Rattle.lifetime.specs.SectionList.{SectionList}
use Rattle.skyline.specs.Skies.{AreLow, at_first}

-- bounds end below 18014398509481984
low_bounds : AreLow (((0, 0) ∷ (1, 18014398509481983) ∷ []) ∷ [])
low_bounds l e (inl q) i = low e (subst (IsIn e) q i)
  where
    low : (e : Entry) → IsIn e ((0, 0) ∷ (1, 18014398509481983) ∷ []) → e.1 < 2 ^ 54
    low e (inl q) = subst (λ (f : Entry). f.1 < 2 ^ 54) (sym q) (lit< tt)
    low e (inr (inl q)) = subst (λ (f : Entry). f.1 < 2 ^ 54) (sym q) (lit< tt)
    low e (inr (inr i)) = absurd i
low_bounds l e (inr j) i = absurd j

-- the second bound of the second claim is too high
high_bound : AreLow (((0, 0) ∷ []) ∷ ((1, 0) ∷ (2, 18014398509481984) ∷ []) ∷ []) → ⊥
high_bound h =
    let k = h ((1, 0) ∷ (2, 18014398509481984) ∷ []) (2, 18014398509481984) (inr (inl refl)) (inr (inl refl)) in
    omega arith

-- of three buffers the last two are the members: one claim is there, in which each may start at its lowest
module _ (I : Instance) (S : SectionList) where
  one_claim : (at_first I S (1 ∷ 2 ∷ [])).claims ≡ ((1, (buffer I 1).lowest) ∷ (2, (buffer I 2).lowest) ∷ []) ∷ []
  one_claim = refl

  same_instance : (at_first I S (1 ∷ 2 ∷ [])).instance ≡ I
  same_instance = refl

  same_sections : (at_first I S (1 ∷ 2 ∷ [])).sections ≡ S
  same_sections = refl
