-- Brackets that narrow round the least capacity 7 of two buffers aligned to four, and what is found of it.
use Rattle.std.proofs.Common.{◌≡◌, ℕ, ◌⊎◌, inl, inr, [], ◌∷◌, Some, None, refl, sym, ◌∙◌, arith}
use Rattle.dsa_terms.proofs.Examples.{two_of_four}
use Rattle.refute_log.specs.Answers.{Answer, Offsets, Refutation}
use Rattle.min_capacity.specs.Brackets.{IfExact, IfOpen, LogComes, Narrows, bracket_of}
use Rattle.min_capacity.specs.declared.brackets.Bracket.{Bracket}
use Rattle.min_capacity.specs.declared.brackets.Least.TheVariants.{Exact, Open}
use Rattle.min_capacity.proofs.ExampleFacts.{seven_is_bracket, six}

-- what was given: the log at 6, and the layout at 7
abbrev Gave : ℕ → Answer → Type 0
Gave C answer = ((C ≡ 6) × (answer ≡ Refutation six)) ⊎ ((C ≡ 7) × (answer ≡ Offsets (0 ∷ 4 ∷ [])))

module _ (start b : Bracket) where
  -- ---- logs
  log_was_given : b.low ≡ 7 → b.log ≡ Some six → LogComes Gave start b
  log_was_given low log = inr (six, log, inl (let e = low in omega arith, refl))

  log_stays : start.log ≡ Some six → b.log ≡ Some six → LogComes Gave start b
  log_stays old new = inl (new ∙ sym old)

  -- a log that was given at 6 shows the lower end 7
  given_for_another_end : b.low ≡ 6 → start.log ≡ None → b.log ≡ Some six → LogComes Gave start b → ⊥
  given_for_another_end low old new (inl e) = let k = sym new ∙ e ∙ old in cc
  given_for_another_end low old new (inr (log, same, inl g)) = let k = g.0 in omega arith
  given_for_another_end low old new (inr (log, same, inr g)) = let k = g.0 in omega arith

  log_is_lost : start.log ≡ Some six → b.log ≡ None → LogComes Gave start b → ⊥
  log_is_lost old new (inl e) = let k = sym new ∙ e ∙ old in cc
  log_is_lost old new (inr (log, same, g)) = let k = sym new ∙ same in cc

  -- ---- from the bracket of 4 and 8 to that of 7 alone
  narrows_to_7 : start.low ≡ 4 → start.high ≡ 8 → b.low ≡ 7 → b.high ≡ 7 → b.layout.items ≡ 0 ∷ 4 ∷ [] →
      b.log ≡ Some six → Narrows two_of_four Gave start b
  narrows_to_7 from to low high layout log = record {
    bracket = seven_is_bracket b low high layout log;
    low = omega arith;
    high = omega arith;
    layout = inr (7, (let e = high in omega arith), (omega arith), inr (refl, rw layout refl));
    log = log_was_given low log;
  }

  widens_below : start.low ≡ 8 → b.low ≡ 7 → Narrows two_of_four Gave start b → ⊥
  widens_below old new h = let k = h.low in omega arith

  widens_above : start.high ≡ 6 → b.high ≡ 7 → Narrows two_of_four Gave start b → ⊥
  widens_above old new h = let k = h.high in omega arith

-- ---- what is found
module _ (b : Bracket) where
  exact_bracket : bracket_of (Exact b) ≡ b
  exact_bracket = refl

  open_bracket : bracket_of (Open b) ≡ b
  open_bracket = refl

  holds_where_exact : IfExact (Exact b) ⊥ → ⊥
  holds_where_exact h = h

  nothing_where_open : IfExact (Open b) ⊥
  nothing_where_open = tt

  holds_where_open : IfOpen (Open b) ⊥ → ⊥
  holds_where_open h = h

  nothing_where_exact : IfOpen (Exact b) ⊥
  nothing_where_exact = tt
