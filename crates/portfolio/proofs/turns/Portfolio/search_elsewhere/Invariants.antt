use Rattle.std.proofs.Common.{◌≡◌, ◌+◌, ◌-◌, ◌≤◌, length}
use Rattle.portfolio.specs.Elsewhere.{left_after}
use Rattle.portfolio.proofs.turns.Portfolio.search_elsewhere.Given as goal

abbrev pub invariant-loop-order : goal.invariant-loop-order
invariant-loop-order l = record {
  left : l.left ≤ l.limit;
  to_come : l.to_come + l.order-index ≡ length l.order-items + 1;
  shares : left_after (l.to_come - 1) l.left ≡ left_after (length l.order-items) l.limit;
}
