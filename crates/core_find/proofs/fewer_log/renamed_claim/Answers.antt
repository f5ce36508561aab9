use Rattle.std.proofs.Common.{◌≡◌, ◌∙◌, slice_index}
use Rattle.core_find.specs.Carried.{renamed_claim}
use Rattle.core_find.proofs.Carrying.{all_renamed, renamed_bounded, renamed_few}
use Rattle.core_find.proofs.fewer_log.renamed_claim.Goals as goal

all : (c : goal.After-loop-pair) →
    c.loop-pair.pairs.items ≡ renamed_claim (slice_index c.args.numbers.now) c.args.claim.now
all c = all_renamed (slice_index c.args.numbers.now) c.loop-pair.pairs.items c.pairs-pair-items.result.now
    c.args.claim.now c.loop-pair.pair-index c.loop-pair.invariant c.loop-pair-test.false
    c.pairs-pair-items.ensures.value

pub from_vec-requires-clause-rises : goal.from_vec-requires-clause-rises
from_vec-requires-clause-rises c = rw (all c) c.requires.rises

pub from_vec-requires-clause-count : goal.from_vec-requires-clause-count
from_vec-requires-clause-count c =
    renamed_few (slice_index c.args.numbers.now) c.loop-pair.pairs.items c.args.claim.now (all c)
    c.pairs-pair-items.ensures.kept.count

pub from_vec-requires-clause-bounds : goal.from_vec-requires-clause-bounds
from_vec-requires-clause-bounds c =
    renamed_bounded (slice_index c.args.numbers.now) c.loop-pair.pairs.items c.args.claim.now (all c) c.requires.bounds

pub returns : goal.returns
returns c =
    c.from_vec.ensures
    ∙ all_renamed (slice_index c.args.numbers.now) c.loop-pair.pairs.items c.pairs-pair-items.result.now
    c.args.claim.now c.loop-pair.pair-index c.loop-pair.invariant c.loop-pair-test.false
    c.pairs-pair-items.ensures.value
