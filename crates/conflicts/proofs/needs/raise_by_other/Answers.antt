use Rattle.conflicts.proofs.needs.raise_by_other.Goals as goal

pub buffer-requires : goal.buffer-requires
buffer-requires c = c.args.lows.now.in_range _ (c.is_free.ensures.value.0 c.if-is_free.true)

pub raise-requires : goal.raise-requires
raise-requires c = rw c.requires.each (c.args.lows.now.in_range _ c.requires.b_in)

pub raise-requires-then-is_free-2 : goal.raise-requires-then-is_free-2
raise-requires-then-is_free-2 c = rw c.requires.each (c.args.lows.now.in_range _ c.requires.b_in)
