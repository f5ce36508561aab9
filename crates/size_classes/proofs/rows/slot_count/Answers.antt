use Rattle.std.proofs.Common.{◌+◌}
use Rattle.size_classes.specs.Slots.{slot_count}
use Rattle.size_classes.proofs.SizeLemmas.{greatest_done}
use Rattle.size_classes.proofs.rows.slot_count.Goals as goal

pub returns : goal.returns
unfolding slot_count
returns c = greatest_done (λ s. s + 1) c.args.slots.now _ _ c.loop-slot-test.false c.loop-slot.invariant
