-- Stacks of sections, the last one first, as the next one is put there.
use Rattle.std.proofs.Common.{◌≡◌, ◌⊎◌, inl, inr, List, [], ◌∷◌, ◌++◌, sym, ap, ◌∙◌, subst, append_assoc, append-nil}
use Rattle.dsa_terms.specs.Claims.{IsIn}
use Rattle.dsa_terms.proofs.Lists.{from_append}
use Rattle.lifetime.specs.SectionList.{Section}
use Rattle.lifetime.specs.Stretches.{AreApart, AreStretches, IsAbove, IsLesser, IsNotOver, IsStretch}
use Rattle.lifetime.specs.Thin.{AreAmong}
use Rattle.lifetime.proofs.Among.{among_trans}

-- what is known while those at the end give way to the next one: it has all of them, and more
pub record IsPopping (done : List Section) (next : Section) (stack rest pending : List Section) : Type 0 where
  pub is : done ≡ rest ++ pending
  pub lesser : (x : Section) → IsIn x pending → IsLesser x next
  pub stretches : AreStretches rest stack
  pub apart : AreApart stack
  pub above : IsAbove next stack

pub none_popped : (done : List Section) (next : Section) (stack : List Section) → AreStretches done stack →
    AreApart stack → IsAbove next stack → IsPopping done next stack done []
none_popped done next stack s a h = record {
  is = sym (append-nil done);
  lesser = λ x i. absurd i;
  stretches = s;
  apart = a;
  above = h;
}

-- one more gives way
pub popped : (done : List Section) (next k : Section) (ks rest pending : List Section) →
    IsPopping done next (k ∷ ks) rest pending → AreAmong k.members next.members →
    (fewer : List Section) × (more : List Section) × IsPopping done next ks fewer more
popped done next k ks rest pending p a = (
  fewer,
  (before ++ k ∷ after) ++ pending,
  record {
    is = p.is ∙ (ap (λ xs. xs ++ pending) stretch.is ∙ append_assoc fewer (before ++ k ∷ after) pending);
    lesser = λ x i. elim (from_append (before ++ k ∷ after) pending x i) [
      | inl j ↦ lesser x (from_append before (k ∷ after) x j)
      | inr j ↦ p.lesser x j
    ];
    stretches = p.stretches.4;
    apart = p.apart.2;
    above = above ks p.apart.0;
  },
)
  where
    fewer : List Section
    fewer = p.stretches.0

    before : List Section
    before = p.stretches.1

    after : List Section
    after = p.stretches.2

    stretch : IsStretch rest p.stretches.0 k p.stretches.1 p.stretches.2
    stretch = p.stretches.3

    under : (x : Section) → AreAmong x.members k.members → IsLesser x next
    under x h = (
      among_trans x.members k.members next.members h a,
      λ g. p.above (among_trans next.members x.members k.members g h),
    )

    lesser : (x : Section) → IsIn x p.stretches.1 ⊎ IsIn x (k ∷ p.stretches.2) → IsLesser x next
    lesser x (inl i) = under x (stretch.lesser x i).0
    lesser x (inr (inl e)) = subst (λ (y : Section). IsLesser y next) (sym e) (under k (λ b i. i))
    lesser x (inr (inr i)) = under x (stretch.within x i)

    above : (ks : List Section) → IsAbove k ks → IsAbove next ks
    above [] h = tt
    above (l ∷ ls) h = λ g. h (among_trans k.members next.members l.members a g)

-- the next one is put last
pub pushed : (done : List Section) (next : Section) (stack rest pending : List Section) →
    IsPopping done next stack rest pending → IsNotOver next stack →
    AreStretches (done ++ next ∷ []) (next ∷ stack) × AreApart (next ∷ stack)
pushed done next stack rest pending p n = (
  (
    rest,
    pending,
    [],
    record {
      is = ap (λ xs. xs ++ next ∷ []) p.is ∙ append_assoc rest pending (next ∷ []);
      lesser = p.lesser;
      within = λ x i. absurd i;
    },
    p.stretches,
  ),
  (p.above, n, p.apart),
)

-- or it is left out
pub left_out : (done : List Section) (next k : Section) (ks : List Section) → AreStretches done (k ∷ ks) →
    AreAmong next.members k.members → AreStretches (done ++ next ∷ []) (k ∷ ks)
left_out done next k ks s a = (
  s.0,
  s.1,
  s.2 ++ next ∷ [],
  record {
    is = ap (λ xs. xs ++ next ∷ []) s.3.is ∙ (append_assoc s.0 (s.1 ++ k ∷ s.2) (next ∷ []) ∙ ap (λ xs. s.0 ++ xs)
        (append_assoc s.1 (k ∷ s.2) (next ∷ [])));
    lesser = s.3.lesser;
    within = λ x i. elim (from_append s.2 (next ∷ []) x i) [
      | inl j ↦ s.3.within x j
      | inr j ↦ elim j [ inl e ↦ subst (λ (y : Section). AreAmong y.members k.members) (sym e) a | inr q ↦ absurd q ]
    ];
  },
  s.4,
)
