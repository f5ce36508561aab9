-- The watches of one buffer after another fail at the levels of a claim, but for those of the buffers that are left.
use Rattle.std.proofs.Common.{◌≡◌, ℕ, ◌+◌, ◌<◌, ◌⊎◌, inl, inr, List, [], ◌∷◌, drop, length, slice_index, sym, subst, arith, slice_index_or, add-one}
use Rattle.std.proofs.Math.Seq.{drop-cons}
use Rattle.dsa_terms.specs.Claims.{Entry, IsIn}
use Rattle.dsa_terms.specs.Logs.{Line}
use Rattle.dsa_terms.proofs.NumberTests.{below_or_from}
use Rattle.line_index.specs.Watches.{AreTheRaised}
use Rattle.line_index.specs.Watching.{AreMoved, FailAt}
use Rattle.line_index.proofs.WatchLemmas.{fail_still}

-- one of the buffers is left, or its watches from its number on fail
abbrev pub FailBut : List Line → List ℕ → List Entry → List Entry → List Entry → Type 0
FailBut lines now watches raised left = (e : Entry) → IsIn e raised → IsIn e left ⊎ FailAt lines watches now e.0 e.1

-- ---- what is left of the buffers
pub next_of : {X : Type 0} (xs : List X) (i : ℕ) (d : X) → i < length xs →
    drop i xs ≡ slice_index_or xs i d ∷ drop (i + 1) xs
next_of xs i d lt = rw add-one (drop-cons xs i d lt)

module _ (lines : List Line) (now : List ℕ) (raised : List Entry) where
  pub fail_next : (old new : List Entry) (x : Entry) (left rest : List Entry) → left ≡ x ∷ rest →
      AreMoved lines now old new → FailAt lines new now x.0 x.1 → FailBut lines now old raised left →
      FailBut lines now new raised rest
  fail_next old new x left rest s moved here h e i = elim (h e i) [
    | inl j ↦ elim (subst (IsIn e) s j) [
      | inl p ↦ inr (subst (λ (e : Entry). FailAt lines new now e.0 e.1) (sym p) here)
      | inr k ↦ inl k
    ]
    | inr f ↦ inr (fail_still _ _ _ _ e.0 _ moved f)
  ]

  -- where none is left and these are the buffers that rose, the watches of all fail: none of another buffer is below
  -- the level now and not below the one before
  pub fail_at_all : (before : List ℕ) (watches : List Entry) (left : List Entry) → left ≡ [] →
      AreTheRaised before now raised → FailBut lines now watches raised left → (b : ℕ) →
      FailAt lines watches now b (slice_index before b)
  fail_at_all before watches left q all h b k line e is at n from below =
      elim (below_or_from (slice_index before b) (slice_index now b)) [
        | inl more ↦ elim (h (b, slice_index before b) (all b more)) [
          | inl i ↦ absurd (subst (IsIn (b, slice_index before b)) q i)
          | inr f ↦ f k line e is at n from below
        ]
        | inr none ↦ absurd (omega (arith, from, below, none))
      ]
