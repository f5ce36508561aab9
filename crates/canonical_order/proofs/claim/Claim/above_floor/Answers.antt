use Rattle.std.proofs.Common.{◌∙◌, sym}
use Rattle.canonical_order.proofs.Places.{at_in}
use Rattle.canonical_order.proofs.Wholes.{found_above, not_above}
use Rattle.canonical_order.proofs.claim.Claim.above_floor.Goals as goal

pub is_above_floor-requires : goal.is_above_floor-requires
is_above_floor-requires c = c.requires.in_range _ (at_in _ _ _ c.pairs-pair-items.ensures.value c.loop-pair-test.true)

pub returns-then-is_above_floor : goal.returns-then-is_above_floor
returns-then-is_above_floor c =
    found_above c.args.instance.now _ _ _ c.pairs-pair-items.ensures.value c.loop-pair-test.true c.loop-pair.invariant
    (sym c.is_above_floor.ensures ∙ c.if-is_above_floor.true)

pub loop-pair-preserved : goal.loop-pair-preserved
loop-pair-preserved c =
    not_above c.args.instance.now _ _ _ c.pairs-pair-items.ensures.value c.loop-pair-test.true c.loop-pair.invariant
    (sym c.is_above_floor.ensures ∙ c.if-is_above_floor.false)
