use Rattle.log_trim.proofs.Keeping.{IsKeptBelow}
use Rattle.log_trim.proofs.trimming.kept.Given as goal

abbrev pub invariant-loop-k : goal.invariant-loop-k
invariant-loop-k l = IsKeptBelow l.instance l.log l.k l.kept l.numbers.items
