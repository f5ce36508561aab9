use Rattle.branching.proofs.TwinMarking.{marks_next, one_more}
use Rattle.branching.proofs.twin_marks.TwinMarks.of.Goals as goal

pub loop-b-preserved : goal.loop-b-preserved
loop-b-preserved c =
    let i = c.loop-b.invariant in
    rw c.in_ok-push.ensures.items (
      one_more c.loop-b.marks.items c.follows_its_like.result c.loop-b.b i.0,
      marks_next _ _ c.follows_its_like.result c.loop-b.b i.0 c.follows_its_like.ensures i.1,
    )
