use Rattle.std.proofs.Common.{◌≡◌, take, slice_index}
use Rattle.core_find.specs.Carried.{renamed_claim}
use Rattle.core_find.proofs.fewer_log.renamed_claim.Given as goal

abbrev pub invariant-loop-pair : goal.invariant-loop-pair
invariant-loop-pair l =
    l.pairs.items ≡ renamed_claim (slice_index l.numbers) (take l.pair-index l.pair-items)
