-- Sections thinned one after another: the stretches that the kept ones stand for.
use Rattle.std.specs.Prelude.{◌≡◌, List, [], ◌∷◌, ◌++◌, reverse}
use Rattle.dsa_terms.specs.Claims.{IsIn}
use Rattle.lifetime.specs.SectionList.{Section}
use Rattle.lifetime.specs.Thin.{AreAmong}

-- x has less than k
abbrev pub IsLesser : Section → Section → Type 0
IsLesser x k = AreAmong x.members k.members × (AreAmong k.members x.members → ⊥)

-- the sections are some others and then a stretch, of which k has all, and more than what comes before it there
pub record IsStretch (sections rest : List Section) (k : Section) (before after : List Section) : Type 0 where
  pub is : sections ≡ rest ++ (before ++ k ∷ after)
  pub lesser : (x : Section) → IsIn x before → IsLesser x k
  pub within : (x : Section) → IsIn x after → AreAmong x.members k.members

-- the sections fall into stretches, one for each of the stack, the last one first
abbrev pub AreStretches : List Section → List Section → Type 0
AreStretches sections [] = sections ≡ []
AreStretches sections (k ∷ ks) = (rest : List Section) × (before : List Section) × (after : List Section) ×
    IsStretch sections rest k before after × AreStretches rest ks

-- k is not among the first of the stack
abbrev pub IsAbove : Section → List Section → Type 0
IsAbove k [] = Unit {0}
IsAbove k (l ∷ ls) = AreAmong k.members l.members → ⊥

-- nor is that among k
abbrev pub IsNotOver : Section → List Section → Type 0
IsNotOver k [] = Unit {0}
IsNotOver k (l ∷ ls) = AreAmong l.members k.members → ⊥

-- no two neighbours of the stack are one among the other
abbrev pub AreApart : List Section → Type 0
AreApart [] = Unit {0}
AreApart (k ∷ ks) = IsAbove k ks × IsNotOver k ks × AreApart ks

-- thinning the sections leaves the kept ones: each stands for a stretch of them, and no two neighbours are one among
-- the other
pub record AreThinned (sections kept : List Section) : Type 0 where
  pub stretches : AreStretches sections (reverse kept)
  pub apart : AreApart (reverse kept)
