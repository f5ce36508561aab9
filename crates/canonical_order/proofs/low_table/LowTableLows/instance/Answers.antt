use Rattle.canonical_order.proofs.Entries.{stands}
use Rattle.canonical_order.proofs.low_table.LowTableLows.instance.Goals as goal

pub returns-clause-stands : goal.returns-clause-stands
returns-clause-stands c =
    stands _ _ c.len-pairs.ensures.kept c.args.self.now.in_range c.len-count.ensures.buffers c.len-count.ensures.limit
