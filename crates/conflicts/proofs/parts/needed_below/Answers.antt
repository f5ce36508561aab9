use Rattle.conflicts.proofs.Walking.{item_in}
use Rattle.conflicts.proofs.parts.needed_below.Goals as goal

pub bounds : goal.bounds
bounds c =
    let i = item_in _ _ _ c.as_slice-b-items.ensures.value c.loop-b-test.true in
    rw c.requires.each (c.args.lows.now.in_range _ (c.requires.of_claim _ i))

pub low-requires : goal.low-requires
low-requires c = c.requires.of_claim _ (item_in _ _ _ c.as_slice-b-items.ensures.value c.loop-b-test.true)
