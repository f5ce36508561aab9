use Rattle.std.proofs.Common.{◌≡◌}
use Rattle.canonical_order.specs.Claims.{entry_of}
use Rattle.conflicts.specs.Ends.{end_of}
use Rattle.conflicts.proofs.OwnCites.{IsLeastBut}
use Rattle.conflicts.proofs.cites.least_end.Given as goal

abbrev pub invariant-loop-pair : goal.invariant-loop-pair
invariant-loop-pair l =
    let I = l.lows.instance.now in
    let k = l.lows.claim.now in
    record {
      least : IsLeastBut I k l.pair-index l.least;
      lowest : l.lowest ≡ end_of I (entry_of k l.least);
    }
