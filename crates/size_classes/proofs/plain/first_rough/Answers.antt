use Rattle.std.proofs.Common.{arith}
use Rattle.size_classes.proofs.PlainLemmas.{none_is_rough, rough_is_first}
use Rattle.size_classes.proofs.plain.first_rough.Goals as goal

pub returns-then-is_rough-clause-value : goal.returns-then-is_rough-clause-value
returns-then-is_rough-clause-value c = rough_is_first _ _ _ _ (omega arith) c.buffer.ensures.value c.is_rough.ensures
    c.if-is_rough.true c.loop-b.invariant

pub returns-clause-value : goal.returns-clause-value
returns-clause-value c = none_is_rough _ c.loop-b.b (omega arith) c.loop-b.invariant
