use Rattle.canonical_order.proofs.Wholes.{whole_exactly}
use Rattle.canonical_order.proofs.claim.Claim.is_whole.Goals as goal

pub returns : goal.returns
returns c = whole_exactly _ _ c.above_floor.result c.is_none.result c.above_floor.ensures c.is_none.ensures
