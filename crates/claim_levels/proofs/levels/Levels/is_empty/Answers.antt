use Rattle.std.proofs.Common.{◌∙◌, subst, sym}
use Rattle.claim_levels.proofs.Words.{AreLevels}
use Rattle.claim_levels.proofs.FirstLevel.{is_nothing, is_something, nothing_left, something_left}
use Rattle.claim_levels.proofs.levels.Levels.is_empty.Goals as goal

pub returns-clause-none : goal.returns-clause-none
returns-clause-none c = λ I l h t. nothing_left I l _ _ (subst (AreLevels I l) (sym c.self.view_is) h)
    c.self.invariant.listed (is_nothing _ (sym c.is_empty.ensures ∙ t))

pub returns-clause-some : goal.returns-clause-some
returns-clause-some c = λ I l h f. something_left I l _ _ (subst (AreLevels I l) (sym c.self.view_is) h)
    c.self.invariant.listed (is_something _ (sym c.is_empty.ensures ∙ f))
