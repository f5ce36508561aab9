use Rattle.std.proofs.Common.{inl, refl}
use Rattle.log_trim.proofs.Marked.{marked_one}
use Rattle.log_trim.proofs.marking.mark.Goals as goal

pub bounds-marks-k : goal.bounds-marks-k
bounds-marks-k c = c.requires c.in-Line.k (rw c.in-Line.is (inl refl))

pub returns-in-Line : goal.returns-in-Line
returns-in-Line c = rw c.in-Line.is (marked_one c.in-Line.k c.args.marks.now
    (c.requires c.in-Line.k (rw c.in-Line.is (inl refl))))
