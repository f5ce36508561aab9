use Rattle.std.proofs.Common.{arith}
use Rattle.branching.proofs.TwinMarking.{none_is_twin}
use Rattle.branching.proofs.twin_marks.follows_its_like.Goals as goal

pub returns : goal.returns
returns c _ = none_is_twin c.args.instance.now c.args.b (λ d h. c.loop-c.invariant d (omega arith))
