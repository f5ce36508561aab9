use Rattle.std.proofs.Common.{subst, sym}
use Rattle.claim_levels.proofs.Words.{AreLevels}
use Rattle.claim_levels.proofs.Grounding.{bounds_low, ground_is_lifted}
use Rattle.claim_levels.proofs.levels.Levels.ground.Goals as goal

pub returns-clause-value : goal.returns-clause-value
returns-clause-value c = λ I l h. ground_is_lifted I l _ _ c.in_ok-ground.ensures
    (subst (AreLevels I l) (sym c.self.view_is) h)

pub returns-clause-low : goal.returns-clause-low
returns-clause-low c =
    let k = c.in_ok-ground.ensures in bounds_low c.self.inside.numbers.now c.in_ok-ground.ground k.each k.low
