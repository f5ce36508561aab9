use Rattle.dsa_model.proofs.Chosen.{chosen_next}
use Rattle.dsa_model.proofs.instance.Instance.some_of.Goals as goal

pub loop-n-preserved : goal.loop-n-preserved
loop-n-preserved c =
    chosen_next _ _ _ _ _ _ _ _ c.self.view_is c.requires.in_range c.loop-n-test.true c.index.ensures
    c.in_ok-buffer.ensures.value c.in_ok-buffer.ensures.buffer c.in_ok-shares.ensures c.in_ok-push.ensures.items
    c.loop-n.invariant
