use Rattle.log_trim.proofs.marking.mark_cited.Goals as goal

pub mark_each-requires : goal.mark_each-requires
mark_each-requires c = rw c.as_slice.ensures (rw c.in-Cases.is at c.requires)
