use Rattle.conflicts.proofs.needs.least_start.Goals as goal

pub bounds-needs-b : goal.bounds-needs-b
bounds-needs-b c = rw c.requires.each (c.args.lows.now.in_range _ c.requires.b_in)

pub buffer-requires : goal.buffer-requires
buffer-requires c = c.args.lows.now.in_range _ c.requires.b_in
