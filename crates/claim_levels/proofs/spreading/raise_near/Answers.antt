use Rattle.std.proofs.Common.{◌∙◌, ap, inl, inr, subst, sym, drop_of_length-le}
use Rattle.claim_levels.proofs.Words.{IsIn, members_of, next_of}
use Rattle.claim_levels.proofs.spreading.raise_near.Goals as goal

pub loop-i-preserved : goal.loop-i-preserved
loop-i-preserved g c = record {
  raising = c.in_ok-raise_each.ensures.raising;
  done = λ s i. elim (c.loop-i.invariant.done s i) [
    | inl left ↦ elim (subst (IsIn s) (next_of c.args.own.now c.loop-i.i 0 c.loop-i-test.true) left) [
      | inl q ↦ inr (λ x j. c.in_ok-raise_each.ensures.done x
          (subst (IsIn x) (ap (members_of c.args.sections.now) q ∙ sym c.members.ensures.value) j))
      | inr rest ↦ inl rest
    ]
    | inr done ↦ inr (λ x j. c.in_ok-raise_each.ensures.kept x (done x j))
  ];
}

pub returns-clause-done : goal.returns-clause-done
returns-clause-done g c = λ s x i j. elim (c.loop-i.invariant.done s i) [
  | inl left ↦ absurd (subst (IsIn s) (drop_of_length-le c.args.own.now c.loop-i-test.false) left)
  | inr done ↦ done x j
]
