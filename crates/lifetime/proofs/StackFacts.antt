-- Worked stacks of sections, the last one first: which stretches they stand for, and which neighbours are apart.
use Rattle.std.proofs.Common.{◌≡◌, inl, inr, List, [], ◌∷◌, ◌++◌, refl, sym, ap, ◌∙◌, subst}
use Rattle.dsa_terms.specs.Claims.{IsIn}
use Rattle.lifetime.specs.SectionList.{Section, section_with}
use Rattle.lifetime.specs.Stretches.{AreApart, AreStretches, IsAbove, IsLesser, IsNotOver, IsStretch}
use Rattle.lifetime.specs.Thin.{AreAmong}
use Rattle.lifetime.proofs.ExampleFacts.{among_both, first, not_among, second}
use Rattle.lifetime.proofs.RunFacts.{both}

-- ---- stretches: the first has buffer 0, the second has 0 and 1, and so stands for a first one on either side of it
first_after : (x : Section) → IsIn x (first ∷ []) → AreAmong x.members second.members
first_after x (inl e) = subst (λ (y : Section). AreAmong y.members second.members) (sym e) among_both
first_after x (inr i) = absurd i

first_before : (x : Section) → IsIn x (first ∷ []) → IsLesser x second
first_before x (inl e) = subst (λ (y : Section). IsLesser y second) (sym e) (among_both, not_among)
first_before x (inr i) = absurd i

second_for_all : AreStretches (first ∷ second ∷ first ∷ []) (second ∷ [])
second_for_all = (
  [],
  first ∷ [],
  first ∷ [],
  record { is = refl; lesser = first_before; within = first_after },
  refl,
)

-- the first does not stand for both, and with none on the stack there is no section
first_for_both : AreStretches both (first ∷ []) → ⊥
first_for_both s = cases s.0 s.1 s.2 s.3 s.4
  where
    cases : (rest before after : List Section) → IsStretch both rest first before after → rest ≡ [] → ⊥
    cases rest [] after s e =
        let q : both ≡ first ∷ after = s.is ∙ ap (λ (xs : List Section). xs ++ first ∷ after) e in
        let a : second ∷ [] ≡ after = cc in
        not_among (s.within second (subst (IsIn second) a (inl refl)))
    cases rest (x ∷ before) after s e =
        let q : both ≡ x ∷ (before ++ first ∷ after) =
        s.is ∙ ap (λ (xs : List Section). xs ++ x ∷ (before ++ first ∷ after)) e in
        let a : first ≡ x = cc in
        (s.lesser x (inl refl)).1 (subst (λ (y : Section). AreAmong first.members y.members) a (λ b i. i))

none_for_both : AreStretches both [] → ⊥
none_for_both s = cc

-- ---- the second is above the first, and the first not above the second; on no others each is
second_above : IsAbove second (first ∷ [])
second_above = not_among

first_not_above : IsAbove first (second ∷ []) → ⊥
first_not_above h = h among_both

alone_is_above : IsAbove first []
alone_is_above = tt

-- ---- nor is the first over the second, and the second is over the first
first_not_over : IsNotOver first (second ∷ [])
first_not_over = not_among

second_over : IsNotOver second (first ∷ []) → ⊥
second_over h = h among_both

alone_is_not_over : IsNotOver second []
alone_is_not_over = tt

-- ---- neighbours are apart where each has a buffer that the other has not; two that are no neighbours may be equal
abbrev with_one : Section
with_one = section_with 7 (1 ∷ [])

zero_is_not_one : AreAmong (0 ∷ []) (1 ∷ []) → ⊥
zero_is_not_one h = elim (h 0 (inl refl)) [ inl e ↦ cc | inr i ↦ i ]

one_is_not_zero : AreAmong (1 ∷ []) (0 ∷ []) → ⊥
one_is_not_zero h = elim (h 1 (inl refl)) [ inl e ↦ cc | inr i ↦ i ]

three_apart : AreApart (first ∷ with_one ∷ first ∷ [])
three_apart = (zero_is_not_one, one_is_not_zero, (one_is_not_zero, zero_is_not_one, (tt, tt, tt)))

one_has_all : AreApart (second ∷ with_one ∷ []) → ⊥
one_has_all h = h.1 (λ b i. inr i)

the_last_has_all : AreApart (with_one ∷ second ∷ []) → ⊥
the_last_has_all h = h.0 (λ b i. inr i)

the_first_two_alone : AreApart (with_one ∷ first ∷ second ∷ []) → ⊥
the_first_two_alone h = h.2.0 among_both
