use Rattle.std.proofs.Common.{arith}
use Rattle.core_find.proofs.Bounding.{whole_is_bounded}
use Rattle.search_tests.proofs.core_find_tests.over_all.Goals as goal

pub whole-requires-clause-rises : goal.whole-requires-clause-rises
whole-requires-clause-rises c = rw c.deref.ensures.value c.in_ok-members.ensures.rises

pub whole-requires-clause-in_range : goal.whole-requires-clause-in_range
whole-requires-clause-in_range c =
    rw (c.deref.ensures.value, ← c.len-count.ensures.value) c.in_ok-members.ensures.below

pub returns : goal.returns
returns c = (
  rw c.in_ok-claim.ensures
      (whole_is_bounded c.args.instance.now _ c.len-count.ensures.buffers
      (rw (c.deref.ensures.value, ← c.len-count.ensures.value) c.in_ok-members.ensures.below)),
  omega arith,
  omega arith,
  omega arith,
)
