use Rattle.std.proofs.Common.{arith, inl, refl, subst, sym}
use Rattle.claim_levels.proofs.Words.{IsIn, level_in_range}
use Rattle.claim_levels.proofs.RaisingSteps.{raised_near}
use Rattle.claim_levels.proofs.spreading.raise_all.Goals as goal

pub sections_of-own-requires : goal.sections_of-own-requires
sections_of-own-requires g c =
    let n = c.requires.1.1.1.0.buffers in
    let lt = level_in_range c.args.instance.now c.requires.1.0.above g.levels c.requires.1.0.are
    c.args.placed.buffer c.requires.1.0.has in
    omega (arith, n, lt)

pub returns-then-are_few-clause-done : goal.returns-then-are_few-clause-done
returns-then-are_few-clause-done g c =
    raised_near c.args.instance.now c.args.sections.now g.levels c.args.placed.buffer c.raise_each.new.raising
    (λ k d i. (c.len-count.ensures.buffers k d i).sound) c.requires.1.0 c.requires.1.1.1.0
    (c.requires.1.1.1.1.1 c.if-is_first.true) c.in_ok-raise_each.ensures.raising
    (λ s x i j. c.in_ok-raise_each.ensures.kept x (c.in_ok-raise_near.ensures.done s x
    (subst (IsIn s) (sym c.sections_of-own.ensures.value) i) j))
    (c.in_ok-raise_each.ensures.done c.args.placed.buffer (inl refl))
