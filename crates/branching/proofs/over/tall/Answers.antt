use Rattle.std.proofs.Common.{◌<◌, arith, slice_index, drop_of_length-le}
use Rattle.branching.proofs.Words.{in_at, next_of}
use Rattle.claim_levels.proofs.LeftBuffers.{left_within}
use Rattle.branching.proofs.TallLevels.{all_fit, first_ends, next_fits, none_at_first, none_ends}
use Rattle.branching.proofs.over.tall.Goals.{After-at}
use Rattle.branching.proofs.over.tall.Goals as goal

pub returns-then-top-task : goal.returns-then-top-task
returns-then-top-task c = λ k h. all_fit _ c.args.task.now.capacity k _ h c.top.result _ c.top.ensures.value
    c.args.task.now.sized c.if-top-task.true

pub loop-i-init : goal.loop-i-init
loop-i-init c = none_at_first c.args.task.now.instance.now c.args.task.now.capacity _ _ c.left-left.ensures

some : (c : After-at) → 0 < c.at.result
some c =
    let left = c.left-left.result.now in
    let more = c.left-left.ensures.some (slice_index left c.loop-i.i) (in_at left c.loop-i.i 0 c.loop-i-test.true) in
    omega (arith, more, c.at.ensures.value)

pub is_tall-requires-clause-some : goal.is_tall-requires-clause-some
is_tall-requires-clause-some c = some (goal.at.is_tall-requires-clause-some c).After-at

pub is_tall-requires-clause-b_in : goal.is_tall-requires-clause-b_in
is_tall-requires-clause-b_in c =
    let left = c.left-left.result.now in
    let lt = left_within _ _ _ c.left-left.ensures
    (in_at left c.loop-i.i 0 c.loop-i-test.true) in
    let n = c.requires in
    omega (arith, lt, n)

pub loop-i-preserved : goal.loop-i-preserved
loop-i-preserved c = next_fits _ _ _ _ _ _ c.at.result (next_of c.left-left.result.now c.loop-i.i 0 c.loop-i-test.true)
    c.at.ensures.value (some (goal.at.loop-i-preserved c).After-at) (c.is_tall.ensures.none c.if-is_tall.false)
    c.loop-i.invariant

pub returns-then-is_tall : goal.returns-then-is_tall
returns-then-is_tall c = λ k h. first_ends _ _ _ _ _ _ c.at.result
    (next_of c.left-left.result.now c.loop-i.i 0 c.loop-i-test.true) c.at.ensures.value
    (some (goal.at.returns-then-is_tall c).After-at) (c.is_tall.ensures.some c.if-is_tall.true) c.loop-i.invariant k h

pub returns : goal.returns
returns c = λ k h. none_ends _ _ _ _ (drop_of_length-le c.left-left.result.now c.loop-i-test.false) c.loop-i.invariant
    k h
