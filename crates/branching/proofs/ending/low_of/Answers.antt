use Rattle.std.proofs.Common.{arith}
use Rattle.branching.proofs.Words.{has_level, level_inside}
use Rattle.branching.proofs.ending.low_of.Goals as goal

pub returns-clause-value : goal.returns-clause-value
returns-clause-value c = λ I l h.
    let b = c.args.b in
    let q = level_inside I l _ h b (has_level I l _ h b c.requires) in
    let v = c.at.ensures.value in
    omega arith
