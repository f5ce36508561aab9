use Rattle.std.proofs.Common.{ℕ, List, subst}
use Rattle.claim_levels.specs.Levels.{IsLeastLevel}
use Rattle.claim_levels.proofs.FirstLevel.{first_by_level}
use Rattle.claim_levels.proofs.levels.Levels.first.Goals as goal

pub returns-clause-first : goal.returns-clause-first
returns-clause-first c = λ I l h some. first_by_level I l _ c.first_level.result h
    (subst (λ (xs : List ℕ). IsLeastLevel xs c.first_level.result) c.self.view_is c.first_level.ensures) some
