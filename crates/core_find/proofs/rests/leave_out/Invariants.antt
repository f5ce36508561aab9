use Rattle.core_find.proofs.LeftOut.{AreLeftOut}
use Rattle.core_find.specs.Found.{rests_of}
use Rattle.core_find.proofs.rests.leave_out.Given as goal

abbrev pub invariant-loop-n : goal.invariant-loop-n
invariant-loop-n l = AreLeftOut (rests_of l.initial.rests) (rests_of l.rests) l.place l.n
