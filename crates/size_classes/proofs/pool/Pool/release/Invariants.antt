use Rattle.std.proofs.Common.{length}
use Rattle.size_classes.specs.Pools.{pool_of}
use Rattle.size_classes.proofs.PoolLemmas.{IsReleasing}
use Rattle.size_classes.proofs.pool.Pool.release.Given as goal

abbrev pub invariant-loop-first : goal.invariant-loop-first
invariant-loop-first l =
    IsReleasing l.moment l.fn.self (pool_of l.self-inside.busy.keys l.self-inside.free.keys l.self-inside.count)

abbrev pub decreases-loop-first : goal.decreases-loop-first
decreases-loop-first l = length l.self-inside.busy.keys
