use Rattle.std.proofs.Common.{◌∙◌, rules}
use Rattle.dsa_model.proofs.Sharing.{next_by_row, next_noted, noted_next}
use Rattle.dsa_model.proofs.instance.shares_with.Goals as goal

pub loop-place-preserved : goal.loop-place-preserved
loop-place-preserved c =
    noted_next _ _ _ _ _ _ c.loop-place.invariant c.add.ensures.same c.add.ensures.value
    (next_by_row _ _ _ _ _ c.loop-place-test.true c.index-rows-place.is
    (c.is_some.ensures ∙ c.first_common.ensures.shared))

pub returns : goal.returns
returns c =
    next_noted _ _ _ _ _ c.requires.buffer (search rules) c.loop-place.invariant c.add-2.ensures.same
    c.add-2.ensures.value
