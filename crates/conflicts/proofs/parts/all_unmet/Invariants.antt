use Rattle.std.proofs.Common.{◌≡◌, drop, length}
use Rattle.dsa_terms.specs.Claims.{buffers_of}
use Rattle.canonical_order.specs.Claims.{HasBuffer}
use Rattle.conflicts.proofs.Walking.{AreMarkedBut}
use Rattle.conflicts.proofs.parts.all_unmet.Given as goal

abbrev pub invariant-loop-pair : goal.invariant-loop-pair
invariant-loop-pair l =
    let k = l.lows.claim.now in
    record {
      count : length l.unmet.items ≡ length l.lows.instance.now;
      left : AreMarkedBut (λ b. HasBuffer k b) (buffers_of (drop l.pair-index k)) l.unmet.items;
    }
