use Rattle.dsa_model.proofs.SameMoments.{by_ranges}
use Rattle.dsa_model.proofs.buffer.Buffer.same_times.Goals as goal

pub returns : goal.returns
returns c =
    by_ranges c.args.self.now c.args.other.now c.live.result.now c.live-2.result.now c.eq.result c.live.ensures
    c.live-2.ensures c.eq.ensures
