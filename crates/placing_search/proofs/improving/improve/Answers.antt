use Rattle.placing_search.proofs.Climbs.{some_buffers}
use Rattle.placing_search.proofs.improving.improve.Goals as goal

pub climb-requires-clause-buffers : goal.climb-requires-clause-buffers
climb-requires-clause-buffers c =
    some_buffers c.args.instance.now c.loop-made.best c.args.floor c.loop-made.invariant.0.layout c.if-floor-best.true
