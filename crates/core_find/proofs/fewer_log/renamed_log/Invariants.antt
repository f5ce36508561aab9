use Rattle.std.proofs.Common.{slice_index}
use Rattle.core_find.proofs.Carrying.{IsRenamedBelow}
use Rattle.core_find.proofs.fewer_log.renamed_log.Given as goal

abbrev pub invariant-loop-k : goal.invariant-loop-k
invariant-loop-k l = IsRenamedBelow l.instance l.log (slice_index l.numbers) l.k l.renamed
