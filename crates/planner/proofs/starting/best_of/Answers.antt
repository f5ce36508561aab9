use Rattle.std.proofs.Common.{◌∙◌, ap, arith, slice_index_or}
use Rattle.planner.proofs.SixStarts.{lowest_in_range}
use Rattle.planner.proofs.starting.best_of.Goals as goal

pub swap_remove-requires : goal.swap_remove-requires
swap_remove-requires c =
    let place = rw c.deref.ensures.value at c.best_start-place.ensures in
    let lt = lowest_in_range c.args.starts.items c.requires.some in
    omega arith

pub returns : goal.returns
returns c =
    let place = rw c.deref.ensures.value at c.best_start-place.ensures in
    c.swap_remove.ensures.value ∙ ap (λ k. slice_index_or c.args.starts.items k c.swap_remove.result) place
