-- The loop over the lines of a log.
use Rattle.std.proofs.Common.{◌≡◌, ℕ, ◌+◌, ◌<◌, ◌≤◌, ◌⊎◌, inl, inr, List, length, slice_get, Some, sym, subst, ◌∙◌, arith}
use Rattle.std.proofs.lemmas.Option.{slice_get_within}
use Rattle.dsa_terms.specs.Buffers.{Instance}
use Rattle.dsa_terms.specs.Claims.{Claim, Covers}
use Rattle.dsa_terms.specs.Logs.{Line, claim_of}
use Rattle.canonical_order.specs.Claims.{IsLeastNumber}
use Rattle.dsa_terms.proofs.NumberTests.{below_or_from}
use Rattle.conflicts.specs.Covering.{IsCoveringLine}

-- none of the first n lines covers the claim
abbrev pub NoneCoversBelow : Instance → List Line → Claim → ℕ → Type 0
NoneCoversBelow I lines l n = (k : ℕ) → k < n → IsCoveringLine I lines l k → ⊥

module _ (I : Instance) (lines : List Line) (l : Claim) (n : ℕ) where
  pub none_below_next : (line : Line) → NoneCoversBelow I lines l n → slice_get lines n ≡ Some line →
      (Covers I (claim_of line) l → ⊥) → NoneCoversBelow I lines l (n + 1)
  none_below_next line h at not k lt c = elim (below_or_last k lt) [
    | inl below ↦ h k below c
    | inr last ↦ not (subst (λ (x : Line). Covers I (claim_of x) l)
        (same (sym (subst (λ (k : ℕ). slice_get lines k ≡ Some c.0) last c.1) ∙ at)) c.2)
  ]
    where
      below_or_last : (k : ℕ) → k < n + 1 → (k < n) ⊎ (k ≡ n)
      below_or_last k lt = grind arith

      same : {x y : Line} → Some x ≡ Some y → x ≡ y
      same q = cc

  pub none_at_all : length lines ≤ n → NoneCoversBelow I lines l n → (k : ℕ) → IsCoveringLine I lines l k → ⊥
  none_at_all le h k c = h k (let lt = slice_get_within lines k c.0 c.1 in omega arith) c

  pub first_is_least : NoneCoversBelow I lines l n → IsCoveringLine I lines l n →
      IsLeastNumber (IsCoveringLine I lines l) n
  first_is_least h c = record {
    holds = c;
    least = λ k d. elim (below_or_from k n) [ inl lt ↦ absurd (h k lt d) | inr le ↦ le ];
  }
