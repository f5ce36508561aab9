use Rattle.std.proofs.Common.{◌≡◌, ◌++◌, filter, drop}
use Rattle.lifetime.specs.Edges.{edge_moments, gap_ends}
use Rattle.layout_picture.specs.Columns.{turns_at}
use Rattle.layout_picture.proofs.columns.push_turns.Given as goal

abbrev pub invariant-loop-gap : goal.invariant-loop-gap
invariant-loop-gap l =
    l.moments.items ++ filter (λ t. turns_at t l.buffer) (gap_ends (drop l.gap-index l.gap-items))
    ≡ l.fn.moments.items ++ filter (λ t. turns_at t l.buffer) (edge_moments l.buffer)
