use Rattle.std.proofs.Common.{◌≡◌, ◌+◌, ◌++◌, ◌∷◌, ◌∙◌, [], List, ℕ, ap, arith, subst, sym}
use Rattle.claim_levels.proofs.LeftBuffers.{AreLeftBelow, left_all, left_next, left_skip}
use Rattle.claim_levels.proofs.left.left_of.Goals.{else-levels-b-gt0, then-levels-b-gt0+in_ok-push}
use Rattle.claim_levels.proofs.left.left_of.Goals as goal

pub loop-b-preserved : goal.loop-b-preserved
loop-b-preserved c =
    let levels = c.args.levels.now in
    let b = c.loop-b.b in
    let before : List ℕ = c.loop-b.left.items in
    let after : List ℕ = c.if-levels-b-gt0.left.items in
    elim c.if-levels-b-gt0.branch [
      | then-levels-b-gt0+in_ok-push w ↦
          let q : after ≡ before ++ b ∷ [] = ap (λ v. v.items) w.left-is ∙ w.in_ok-push.ensures.items in
          let t = w.if-levels-b-gt0.true in
          left_next _ b _ after q (omega (arith, t)) c.loop-b.invariant
      | else-levels-b-gt0 w ↦
          let q : after ≡ before = ap (λ v. v.items) w.left-is in
          let t = w.if-levels-b-gt0.false in
          subst (λ (xs : List ℕ). AreLeftBelow levels (b + 1) xs) (sym q)
          (left_skip _ b _ (omega (arith, t)) c.loop-b.invariant)
    ]

pub returns : goal.returns
returns c = left_all _ _ _ c.loop-b-test.false c.loop-b.invariant
