use Rattle.std.proofs.Common.{◌≡◌, ◌++◌, map, drop}
use Rattle.lifetime.specs.Edges.{edges_of, gap_ends}
use Rattle.lifetime.proofs.edges.push_edges.Given as goal

abbrev pub invariant-loop-gap : goal.invariant-loop-gap
invariant-loop-gap l =
    l.fn.edges.items ++ edges_of l.buffer l.b ≡ l.edges.items ++ map (λ t. (t, l.b))
    (gap_ends (drop l.gap-index l.buffer.gaps))
