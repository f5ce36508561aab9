use Rattle.std.proofs.Common.{◌≡◌, drop, length, replicate}
use Rattle.canonical_order.proofs.LowTabling.{filled}
use Rattle.canonical_order.proofs.low_table.LowTable.of.Given as goal

abbrev pub invariant-loop-pair : goal.invariant-loop-pair
invariant-loop-pair l =
    record {
      left : filled l.instance (drop l.pair-index l.claim) l.levels.items
          ≡ filled l.instance l.claim (replicate (length l.instance) 0);
      count : length l.levels.items ≡ length l.instance;
    }
