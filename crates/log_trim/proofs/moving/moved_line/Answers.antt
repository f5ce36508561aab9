use Rattle.log_trim.proofs.moving.moved_line.Goals as goal

pub moved_cites-requires : goal.moved_cites-requires
moved_cites-requires c = rw c.as_slice.ensures (rw c.in-Cases.is at c.requires)
