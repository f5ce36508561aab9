use Rattle.std.proofs.Common.{inl, refl, arith, length, ◌<◌}
use Rattle.log_trim.proofs.moving.moved_cite.Goals as goal

pub offset_bounds-numbers-k : goal.offset_bounds-numbers-k
offset_bounds-numbers-k c = let lt : c.in-Line.k < length c.args.numbers.now =
    c.requires c.in-Line.k (rw c.in-Line.is (inl refl)) in omega arith

pub bounds-numbers-k : goal.bounds-numbers-k
bounds-numbers-k c = c.requires c.in-Line.k (rw c.in-Line.is (inl refl))
