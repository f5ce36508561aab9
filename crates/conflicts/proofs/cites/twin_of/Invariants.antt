use Rattle.canonical_order.specs.Claims.{entry_of}
use Rattle.conflicts.proofs.OwnCites.{HoldsBut, IsNoTwin}
use Rattle.conflicts.proofs.cites.twin_of.Given as goal

abbrev pub invariant-loop-pair : goal.invariant-loop-pair
invariant-loop-pair l =
    let k = l.lows.claim.now in
    HoldsBut (IsNoTwin l.lows.instance.now (entry_of k l.b)) k l.pair-index
