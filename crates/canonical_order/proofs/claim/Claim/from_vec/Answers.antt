use Rattle.canonical_order.proofs.Entries.{raise_limit}
use Rattle.canonical_order.proofs.claim.Claim.from_vec.Goals as goal

pub invariant_of-result : goal.invariant_of-result
invariant_of-result c =
    record { rises = c.requires.rises; bounds = raise_limit _ c.requires.bounds; count = c.requires.count }
