use Rattle.std.proofs.Common.{◌<◌, ◌∙◌, arith, slice_index}
use Rattle.std.proofs.lemmas.List.{length-set}
use Rattle.skyline.proofs.Marks.{marked-more}
use Rattle.skyline.proofs.rooms.mark.Goals as goal

pub loop-i-preserved : goal.loop-i-preserved
loop-i-preserved c =
    let at : slice_index c.args.members.now c.loop-i.i < c.args.count = c.requires c.loop-i.i 0 (omega arith) in
    record {
      count = length-set c.loop-i.marks.items _ _ ∙ c.loop-i.invariant.count;
      marks = marked-more c.loop-i.marks.items c.args.members.now c.loop-i.i c.args.count
          (omega arith) at c.loop-i.invariant.count c.loop-i.invariant.marks;
    }
