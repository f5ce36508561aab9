-- Halving as an equation, and what one call at the middle leaves of it.
use Rattle.std.proofs.Common.{◌≡◌, ℕ, zero, suc, ◌+◌, ◌-◌, ◌/◌, ◌<◌, ◌≤◌, Bool, true, false, cond, nat_le, Option, Some, None, refl, ap, ◌∙◌, arith}
use Rattle.std.specs.Prelude.{min}
use Rattle.dsa_terms.proofs.NumberTests.{above, is_at_most, not_at_most}
use Rattle.refute_log.specs.Halvings.{after_turn, halving_within, halving}

pub middle : (a b : ℕ) → a < b → (a ≤ (a + b) / 2) × ((a + b) / 2 < b)
middle a b lt = (omega arith, omega arith)

-- the counter of steps makes no difference once it is as long as the bracket
halving_enough : (most : ℕ → ℕ) (turn : ℕ → Option ℕ) (j k a b : ℕ) → b - a ≤ j → b - a ≤ k →
    halving_within j most turn a b ≡ halving_within k most turn a b
halving_enough most turn zero zero a b p q = refl
halving_enough most turn zero (suc k) a b p q = let e = is_at_most b a (omega arith) in rw e refl
halving_enough most turn (suc j) zero a b p q = let e = is_at_most b a (omega arith) in rw e refl
halving_enough most turn (suc j) (suc k) a b p q = go (λ x y. halving_enough most turn j k x y) (nat_le b a) refl
  where
    go : ((x y : ℕ) → y - x ≤ j → y - x ≤ k → halving_within j most turn x y ≡ halving_within k most turn x y) →
        (t : Bool) → nat_le b a ≡ t →
        cond t 0 (most ((a + b) / 2) + after_turn (halving_within j most turn) a b ((a + b) / 2) (turn ((a + b) / 2)))
        ≡ cond t 0 (most ((a + b) / 2) + after_turn (halving_within k most turn) a b ((a + b) / 2) (turn ((a + b) / 2)))
    go ih true e = refl
    go ih false e = ap (λ w. most ((a + b) / 2) + w) (by (turn ((a + b) / 2)))
      where
        m : (a ≤ (a + b) / 2) × ((a + b) / 2 < b)
        m = middle a b (above b a e)

        by : (o : Option ℕ) → after_turn (halving_within j most turn) a b ((a + b) / 2) o
            ≡ after_turn (halving_within k most turn) a b ((a + b) / 2) o
        by None =
            ih ((a + b) / 2 + 1) b (let x = m.0 in let y = m.1 in omega arith) (let x = m.0 in let y = m.1 in
            omega arith)
        by (Some t) =
            ih a (min t ((a + b) / 2)) (let x = m.0 in let y = m.1 in omega arith) (let x = m.0 in let y = m.1 in
            omega arith)

pub halving_met : (most : ℕ → ℕ) (turn : ℕ → Option ℕ) (a b : ℕ) → b ≤ a → halving most turn a b ≡ 0
unfolding halving
halving_met most turn a b le = let e : b - a ≡ 0 = omega arith in rw e refl

pub halving_equation : (most : ℕ → ℕ) (turn : ℕ → Option ℕ) (a b : ℕ) → a < b →
    halving most turn a b
    ≡ most ((a + b) / 2) + after_turn (halving most turn) a b ((a + b) / 2) (turn ((a + b) / 2))
unfolding halving
halving_equation most turn a b lt =
    halving_enough most turn (b - a) (suc (b - a)) a b (omega arith) (omega arith)
    ∙ rw e (ap (λ w. most ((a + b) / 2) + w) (by (turn ((a + b) / 2))))
  where
    e : nat_le b a ≡ false
    e = not_at_most b a lt

    m : (a ≤ (a + b) / 2) × ((a + b) / 2 < b)
    m = middle a b lt

    by : (o : Option ℕ) → after_turn (halving_within (b - a) most turn) a b ((a + b) / 2) o
        ≡ after_turn (λ x y. halving_within (y - x) most turn x y) a b ((a + b) / 2) o
    by None =
        halving_enough most turn (b - a) (b - ((a + b) / 2 + 1)) ((a + b) / 2 + 1) b (let x = m.0 in omega arith)
        (omega arith)
    by (Some t) =
        halving_enough most turn (b - a) (min t ((a + b) / 2) - a) a (min t ((a + b) / 2)) (let y = m.1 in omega arith)
        (omega arith)

-- ---- one call at the middle
module _ (most : ℕ → ℕ) (turn : ℕ → Option ℕ) (a b : ℕ) (lt : a < b) where
  -- a layout of height h, which is at most the middle
  pub halving_at_layout : (h : ℕ) → h ≤ (a + b) / 2 → turn ((a + b) / 2) ≡ Some h →
      halving most turn a b ≡ most ((a + b) / 2) + halving most turn a h
  halving_at_layout h le e =
      let k : min h ((a + b) / 2) ≡ h = omega arith in
      halving_equation most turn a b lt
      ∙ ap (λ o. most ((a + b) / 2) + after_turn (halving most turn) a b ((a + b) / 2) o) e
      ∙ ap (λ k. most ((a + b) / 2) + halving most turn a k) k

  -- a log at the middle
  pub halving_at_log : turn ((a + b) / 2) ≡ None →
      halving most turn a b ≡ most ((a + b) / 2) + halving most turn ((a + b) / 2 + 1) b
  halving_at_log e =
      halving_equation most turn a b lt
      ∙ ap (λ o. most ((a + b) / 2) + after_turn (halving most turn) a b ((a + b) / 2) o) e

  -- the call is within the halving
  pub halving_at_call : most ((a + b) / 2) ≤ halving most turn a b
  halving_at_call = let e = halving_equation most turn a b lt in omega arith
