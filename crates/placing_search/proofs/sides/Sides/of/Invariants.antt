use Rattle.std.proofs.Common.{◌≡◌, ◌+◌, ◌*◌, ◌<◌, length}
use Rattle.std.specs.List.{All}
use Rattle.placing_search.proofs.sides.Sides.of.Given as goal

abbrev pub invariant-loop-b : goal.invariant-loop-b
invariant-loop-b l =
    (length l.left.items ≡ length l.instance)
    × (length l.right.items ≡ length l.instance)
    × All (λ column. column < 2 * length l.instance + 2) l.left.items
    × All (λ column. column < 2 * length l.instance + 2) l.right.items
    × (length l.bare.items ≡ 2 * length l.instance + 2)
    × (length l.loads.items ≡ 2 * length l.instance + 2)

abbrev pub invariant-loop-column : goal.invariant-loop-column
invariant-loop-column l =
    (length l.bare.items ≡ 2 * length l.instance + 2) × (length l.loads.items ≡ 2 * length l.instance + 2)
