use Rattle.std.proofs.Common.{arith}
use Rattle.size_classes.proofs.SizeLemmas.{class_is_next, class_is_zero}
use Rattle.size_classes.proofs.sizes.class_of.Goals as goal

pub returns-then-size-le1 : goal.returns-then-size-le1
returns-then-size-le1 c = class_is_zero c.args.size (omega arith)

pub returns-else-size-le1 : goal.returns-else-size-le1
returns-else-size-le1 c = class_is_next c.args.size c.ilog2.result (omega arith) c.ilog2.ensures.power_le
    c.ilog2.ensures.next_power_gt
