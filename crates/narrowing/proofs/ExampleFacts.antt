-- Brackets of two buffers aligned to four, whose least capacity is 7, after answers.
use Rattle.std.proofs.Common.{◌≡◌, ℕ, ◌<◌, inl, inr, [], ◌∷◌, Some, None, refl, sym, ap, ◌∙◌, arith}
use Rattle.std.specs.Global.{Vec}
use Rattle.dsa_terms.specs.Buffers.{buffer}
use Rattle.dsa_terms.specs.Plans.{layout_height}
use Rattle.dsa_terms.proofs.Examples.{two_of_four}
use Rattle.refute_log.specs.declared.decided.Decided.TheVariants.{Layout, Refuted, Spent}
use Rattle.min_capacity.specs.declared.brackets.Bracket.{Bracket}
use Rattle.min_capacity.proofs.ExampleFacts.{seven_is_bracket, six}
use Rattle.narrowing.specs.Narrowed.{after_answer, IsDecidedAt, IsLeftOpen, IsLogAt, IsLogPaid, IsNarrowed, LayoutFalls, lines_of, MayBeAsked}

-- ---- lines of answers
one_line : lines_of (Refuted six) ≡ 1
one_line = refl

no_line : lines_of Spent ≡ 0
no_line = refl

module _ (start b : Bracket) (v : Vec ℕ) where
  no_line_of_a_layout : lines_of (Layout v) ≡ 0
  no_line_of_a_layout = refl

  -- ---- what may be asked
  asked_below_7 : b.low ≡ 4 → b.high ≡ 7 → MayBeAsked (λ C. C < 7) b
  asked_below_7 low high = λ C p q. omega arith

  six_is_inside : b.low ≡ 4 → b.high ≡ 7 → MayBeAsked (λ C. C < 6) b → ⊥
  six_is_inside low high h = let k = h 6 (omega arith) (omega arith) in omega arith

  -- ---- what an answer makes of a bracket
  log_raises : (after_answer two_of_four 6 b (Refuted six)).low ≡ 7
  log_raises = refl

  log_is_kept : (after_answer two_of_four 6 b (Refuted six)).log ≡ Some six
  log_is_kept = refl

  seven_high : layout_height two_of_four (0 ∷ 4 ∷ []) ≡ 7
  unfolding layout_height buffer
  seven_high = refl

  -- to its height, not to the capacity
  layout_lowers : v.items ≡ 0 ∷ 4 ∷ [] → (after_answer two_of_four 9 b (Layout v)).high ≡ 7
  layout_lowers at = ap (layout_height two_of_four) at ∙ seven_high

  spent_leaves : after_answer two_of_four 6 b Spent ≡ b
  spent_leaves = refl

  -- ---- from the bracket of 4 and 8 to that of 7 alone
  layout_falls : start.high ≡ 8 → b.high ≡ 7 → LayoutFalls start b
  layout_falls from to = inr (omega arith)

  another_as_high : start.layout.items ≡ 4 ∷ 0 ∷ [] → b.layout.items ≡ 0 ∷ 4 ∷ [] → b.high ≡ start.high →
      LayoutFalls start b → ⊥
  another_as_high old new same (inl e) = let k = sym new ∙ e ∙ old in cc
  another_as_high old new same (inr lt) = omega (arith, lt, same)

  narrowed_to_7 : start.low ≡ 4 → start.high ≡ 8 → b.low ≡ 7 → b.high ≡ 7 → b.layout.items ≡ 0 ∷ 4 ∷ [] →
      b.log ≡ Some six → IsNarrowed two_of_four start b
  narrowed_to_7 from to low high layout log = record {
    bracket = seven_is_bracket b low high layout log;
    low = omega arith;
    high = omega arith;
    layout = layout_falls to high;
  }

  widened_below : start.low ≡ 8 → b.low ≡ 7 → IsNarrowed two_of_four start b → ⊥
  widened_below old new h = let k = h.low in omega arith

  -- ---- a new log is paid for
  one_unit_pays : start.low ≡ 4 → b.low ≡ 7 → b.log ≡ Some six → IsLogPaid 3 4 start b
  one_unit_pays from to log = inr (six, log, omega arith, omega arith)

  none_is_too_few : start.log ≡ None → b.log ≡ Some six → IsLogPaid 3 3 start b → ⊥
  none_is_too_few old new (inl e) = let k = sym new ∙ e ∙ old in cc
  none_is_too_few old new (inr (log, same, rises, paid)) =
      let k : log ≡ six = let e = sym same ∙ new in cc in
      let p = rw k at paid in
      omega (arith, p)

  -- ---- one capacity
  six_has_a_log : b.log ≡ Some six → IsLogAt 6 b
  six_has_a_log log = (six, log, refl)

  six_is_decided : b.low ≡ 7 → b.log ≡ Some six → IsDecidedAt 6 b
  six_is_decided low log = inr (low, six_has_a_log log)

  seven_is_decided : b.high ≡ 7 → IsDecidedAt 7 b
  seven_is_decided high = inl (omega arith)

  six_is_undecided : b.low ≡ 4 → b.high ≡ 8 → IsDecidedAt 6 b → ⊥
  six_is_undecided low high (inl le) = omega (arith, le)
  six_is_undecided low high (inr d) = let e = d.0 in omega arith

  six_is_open : b ≡ start → b.low ≡ 4 → b.high ≡ 8 → IsLeftOpen 6 start b
  six_is_open same low high = record { same = same; low = omega arith; high = omega arith }

  eight_is_not_inside : b.high ≡ 8 → IsLeftOpen 8 start b → ⊥
  eight_is_not_inside high h = let k = h.high in omega arith
