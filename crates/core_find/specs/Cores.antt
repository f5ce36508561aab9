-- Irreducible sets of buffers that do not fit.
use Rattle.std.specs.Prelude.{◌≡◌, ◌⊎◌, ℕ, not, ◌==◌, List, [], ◌∷◌, ◌++◌, length}
use Rattle.std.specs.List.{filter}
use Rattle.dsa_terms.specs.Buffers.{Instance}
use Rattle.dsa_terms.specs.Claims.{IsIn}
use Rattle.dsa_terms.specs.Layouts.{IsFeasible, IsInfeasible}
use Rattle.dsa_terms.specs.Parts.{numbers}
use Rattle.dsa_model.specs.Chosen.{some_of}

-- each of these numbers is one of those
abbrev pub AreAmong : List ℕ → List ℕ → Type 0
AreAmong ks ms = (b : ℕ) → IsIn b ks → IsIn b ms

-- the members without b
abbrev pub without : ℕ → List ℕ → List ℕ
without b members = filter (λ c. not (c == b)) members

-- what is left of the kept ones and of those that follow them, which are looked at in order: one is dropped where the
-- others that remain do not fit at C, and kept where they do
abbrev pub IsLeft : Instance → ℕ → (kept following members : List ℕ) → Type 0
IsLeft I C kept [] members = members ≡ kept
IsLeft I C kept (b ∷ following) members =
    (IsInfeasible (some_of I (kept ++ following)) C × IsLeft I C kept following members)
    ⊎ (IsFeasible (some_of I (kept ++ following)) C × IsLeft I C (kept ++ b ∷ []) following members)

-- the core of an instance that does not fit at C: what is left of all its buffers, in order of number
pub record IsCore (I : Instance) (C : ℕ) (members : List ℕ) : Type 0 where
  pub infeasible : IsInfeasible I C
  pub left : IsLeft I C [] (numbers (length I)) members
