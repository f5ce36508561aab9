-- What is looked up at the levels of a child, which were made from those of the claim above it.
use Rattle.std.proofs.Common.{◌≡◌, ℕ, List, Option, Some, None, Result, Ok, Err, IfOk, IfSome, OnErr, arith}
use Rattle.claim_levels.proofs.Words.{Instance, IsInstance, Claim, Entry, child, entry_of, AreLevels}
use Rattle.line_index.specs.Watches.{AreRaised, AreTheRaised}
use Rattle.line_index.proofs.Rising.{child_raised}
use Rattle.line_index.proofs.WatchLemmas.{raised_trans}
use Rattle.claim_levels.specs.declared.raising.Raising.{Raising}
use Rattle.claim_levels.specs.Levels.{HasLowChild}
use Rattle.claim_levels.specs.Raisings.{IsRaised, IsRaising}
use Rattle.claim_levels.proofs.ChildLevels.{child_levels}

module _ (I : Instance) (levels : List ℕ) (b : ℕ) (r : Raising) (h : IsRaising I levels b r) where
  -- those that rose are noted
  noted_raised : AreTheRaised levels r.numbers.items r.changes.items
  noted_raised c lt = h.noted c (λ p. omega (arith, p, lt))

  pub all_noted : (now : List ℕ) (changes : List Entry) → now ≡ r.numbers.items → changes ≡ r.changes.items →
      AreTheRaised levels now changes
  all_noted now changes q p = rw (q, p) noted_raised

  module _ (done : (c : ℕ) → IsRaised I levels b r.numbers.items c) (now : List ℕ) (q : now ≡ r.numbers.items) where
    -- they are those of the child
    pub child_is : (l : Claim) → AreLevels I l levels → AreLevels I (child I l (entry_of l b)) now
    child_is l a = rw q (child_levels I l levels b a r.numbers.items h.count h.outside (λ c more. done c more l a))

    module _ (s : IsInstance I) (low : HasLowChild I levels b) where
      -- and none is lower
      pub none_fell : AreRaised levels now
      none_fell = child_raised I low.above b levels now s low.are (child_is low.above low.are)

      -- nor than at a claim above
      pub none_fell_since : (before : List ℕ) → AreRaised before levels → AreRaised before now
      none_fell_since before k = raised_trans before levels now k none_fell

-- ---- what holds whatever is found
pub if_found : {A E P Q : Type 0} (r : Result (Option A) E) → P → Q → IfOk r (λ o. IfSome o (λ _. P × Q))
if_found (Ok (Some a)) p q = (p, q)
if_found (Ok None) p q = tt
if_found (Err e) p q = tt

pub on_fault : {A E P Q : Type 0} (r : Result A E) → P → Q → OnErr r (P × Q)
on_fault (Ok a) p q = tt
on_fault (Err e) p q = (p, q)
