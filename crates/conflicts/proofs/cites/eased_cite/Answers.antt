use Rattle.canonical_order.specs.Claims.{entry_of}
use Rattle.refute_log.specs.Lines.{cite_value}
use Rattle.conflicts.proofs.OwnCites.{none_own}
use Rattle.conflicts.proofs.cites.eased_cite.Goals as goal

pub returns-in-None-clause-own : goal.returns-in-None-clause-own
returns-in-None-clause-own c =
    none_own c.args.lows.now.instance.now c.args.lows.now.claim.now (entry_of c.args.lows.now.claim.now c.args.b)
    (cite_value c.args.given) c.in-None.ensures
