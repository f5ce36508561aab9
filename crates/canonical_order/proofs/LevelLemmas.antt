-- What the levels of a claim say of its buffers and lows.
use Rattle.std.proofs.Common.{◌≡◌, ℕ, ◌+◌, ◌<◌, ◌⊎◌, inl, inr, IsTrue, nat_lt, List, length, slice_index, slice_index_or, Option, Some, None, refl, ◌∙◌, arith}
use Rattle.std.proofs.lemmas.Bool.Decides.{nat_tests}
use Rattle.std.proofs.lemmas.Grind.{get_or_default_zero}
use Rattle.std.proofs.lemmas.List.{get_or_past}
use Rattle.dsa_terms.specs.Buffers.{Instance}
use Rattle.dsa_terms.specs.Claims.{Claim, up}
use Rattle.canonical_order.specs.Claims.{HasBuffer, bound_of, entry_of}
use Rattle.canonical_order.specs.Levels.{AreLevels}
use Rattle.canonical_order.proofs.Entries.{bound_none, bound_some, entry_in}
use Rattle.dsa_terms.proofs.NumberTests.{below_or_from}

pub has_or_not : (l : Claim) (b : ℕ) → HasBuffer l b ⊎ (HasBuffer l b → ⊥)
has_or_not l b = go (bound_of l b) refl
  where
    go : (o : Option ℕ) → o ≡ bound_of l b → HasBuffer l b ⊎ (HasBuffer l b → ⊥)
    go None e = inr (bound_none l b e)
    go (Some x) e = inl (bound_some l b x e).0

-- ---- tests of levels
pub some_number : (n : ℕ) → IsTrue (nat_lt 0 n) → 0 < n
some_number n h = grind (arith, nat_tests)

pub one_more : (n m : ℕ) → n ≡ m + 1 → IsTrue (nat_lt 0 n)
one_more n m q = grind (arith, nat_tests)

-- ---- the level of one buffer
module _ (I : Instance) (l : Claim) (levels : List ℕ) (h : AreLevels I l levels) where
  pub level_in_range : (b : ℕ) → HasBuffer l b → b < length I
  level_in_range b i = h.claim.in_range (entry_of l b) (entry_in l b i)

  pub level_inside : (b : ℕ) → HasBuffer l b → slice_index levels b ≡ up I (entry_of l b) + 1
  level_inside b i = (h.each b (level_in_range b i)).inside i

  pub level_outside : (b : ℕ) → (HasBuffer l b → ⊥) → slice_index levels b ≡ 0
  level_outside b n = elim (below_or_from b (length I)) [
    | inl lt ↦ (h.each b lt).outside n
    | inr le ↦ get_or_past levels b 0 (let k = h.count in omega arith)
  ]

  pub has_level : (b : ℕ) → 0 < slice_index levels b → HasBuffer l b
  has_level b lt = elim (has_or_not l b) [
    | inl i ↦ i
    | inr n ↦ absurd (let k : slice_index levels b ≡ 0 = level_outside b n in omega arith)
  ]

  -- the same of a level that was read
  pub read_inside : (b level : ℕ) → level ≡ slice_index_or levels b level → HasBuffer l b →
      level ≡ up I (entry_of l b) + 1
  read_inside b level q i =
      let lt : b < length levels = (let k = h.count in let n = level_in_range b i in omega arith) in
      q ∙ (get_or_default_zero levels b level lt ∙ level_inside b i)

  pub read_has : (b level : ℕ) → level ≡ slice_index_or levels b level → b < length levels →
      IsTrue (nat_lt 0 level) → HasBuffer l b
  read_has b level q lt t =
      has_level b (let e : level ≡ slice_index levels b = q ∙ get_or_default_zero levels b level lt in
      let k = some_number level t in omega arith)
