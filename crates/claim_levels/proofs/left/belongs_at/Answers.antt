use Rattle.std.proofs.Common.{◌<◌, ◌-◌, ◌∙◌, sym, slice_index_or, arith}
use Rattle.std.proofs.lemmas.Bool.Decides.{nat_tests}
use Rattle.claim_levels.proofs.LeftBuffers.{greater_from, less_before}
use Rattle.claim_levels.proofs.left.belongs_at.Goals.{Else-left-place, then-place-gt0, else-place-gt0}
use Rattle.claim_levels.proofs.left.belongs_at.Goals as goal

after : (c : Else-left-place) → 0 < c.args.place → slice_index_or c.args.left.now (c.args.place - 1) 0 < c.args.b
after c some = elim c.if-place-gt0.branch [
  | then-place-gt0 w ↦ (let e = sym w.value-is ∙ c.if-left-place.false in grind (arith, nat_tests, e))
  | else-place-gt0 w ↦ absurd (let z = w.if-place-gt0.false in omega (arith, some, z))
]

pub returns-then-place-len-2-clause-less : goal.returns-then-place-len-2-clause-less
returns-then-place-len-2-clause-less c = λ t. less_before c.args.left.now c.args.b c.args.place c.requires
    (let k = c.if-place-len.false in omega (arith, k))
    (after (goal.at.returns-then-place-len-2-clause-less c).Else-left-place)

pub returns-else-place-len-2-clause-less : goal.returns-else-place-len-2-clause-less
returns-else-place-len-2-clause-less c = λ t. less_before c.args.left.now c.args.b c.args.place c.requires
    (let k = c.if-place-len.false in omega (arith, k))
    (after (goal.at.returns-else-place-len-2-clause-less c).Else-left-place)

pub returns-else-place-len-2-clause-greater : goal.returns-else-place-len-2-clause-greater
returns-else-place-len-2-clause-greater c = λ t.
    greater_from c.args.left.now c.args.b c.args.place c.requires (grind (arith, nat_tests, t))
