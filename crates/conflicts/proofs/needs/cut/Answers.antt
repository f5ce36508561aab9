use Rattle.std.proofs.Common.{◌≡◌, map}
use Rattle.conflicts.specs.Eased.{cut}
use Rattle.conflicts.proofs.ListSteps.{mapped_all}
use Rattle.conflicts.proofs.LowerClaims.{cut_is_lower, lower_bounded}
use Rattle.canonical_order.proofs.Places.{at_in}
use Rattle.conflicts.proofs.needs.cut.Goals as goal

pub bounds-needs-pair : goal.bounds-needs-pair
bounds-needs-pair c = rw c.requires.each ((c.requires.stands).claim.in_range _
    (at_in _ _ _ c.pairs-pair-items.ensures.value c.loop-pair-test.true))

all_cut : (c : goal.After-loop-pair) → c.loop-pair.pairs.items ≡ map (cut c.args.needs.now) c.args.claim.now
all_cut c = mapped_all (cut c.args.needs.now) c.args.claim.now c.loop-pair.pair-index _
    (rw c.pairs-pair-items.ensures.value at c.loop-pair-test.false) c.loop-pair.invariant

pub from_vec-requires-clause-rises : goal.from_vec-requires-clause-rises
from_vec-requires-clause-rises c =
    let l = c.args.claim.now in
    rw (all_cut c) (cut_is_lower c.args.needs.now l (c.requires.stands).claim.rises).rises

pub from_vec-requires-clause-bounds : goal.from_vec-requires-clause-bounds
from_vec-requires-clause-bounds c =
    let l = c.args.claim.now in
    let low = cut_is_lower c.args.needs.now l (c.requires.stands).claim.rises in
    rw (all_cut c) (lower_bounded c.args.instance.now l _ c.requires.stands low _ c.requires.bounds)
