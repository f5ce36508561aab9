use Rattle.canonical_order.specs.Claims.{entry_of}
use Rattle.conflicts.proofs.OwnCites.{end_is}
use Rattle.conflicts.proofs.cites.end.Goals as goal

pub buffer-requires : goal.buffer-requires
buffer-requires c = c.args.lows.now.in_range _ c.requires

pub returns-clause-value : goal.returns-clause-value
returns-clause-value c =
    end_is c.args.lows.now.instance.now (entry_of c.args.lows.now.claim.now c.args.b) c.buffer.result.now c.low.result
    c.size.result c.low.ensures.value c.buffer.ensures.value c.size.ensures.value
