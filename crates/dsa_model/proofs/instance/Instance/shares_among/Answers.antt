use Rattle.dsa_model.proofs.Chosen.{of_members}
use Rattle.dsa_model.proofs.Sharing.{noted_next}
use Rattle.dsa_model.proofs.instance.Instance.shares_among.Goals as goal

pub loop-place-preserved : goal.loop-place-preserved
loop-place-preserved c =
    noted_next _ _ _ _ _ _ c.loop-place.invariant c.add.ensures.same c.add.ensures.value
    (of_members _ _ _ _ _ c.requires.place c.loop-place-test.true c.do_share.ensures)
