use Rattle.std.proofs.Common.{◌+◌, ◌∙◌, drop, slice_index, sym}
use Rattle.branching.proofs.Words.{entry_of}
use Rattle.branching.proofs.Along.{rises_left}
use Rattle.branching.proofs.LeftEntries.{left_next, left_past, left_some}
use Rattle.branching.proofs.TwinWalks.{none_after, none_at_all, twin_here, twin_next}
use Rattle.branching.proofs.choice.twin_before.Goals as goal

pub is_twin-requires-clause-c_in : goal.is_twin-requires-clause-c_in
is_twin-requires-clause-c_in c = left_some _ _ c.left-c-items.ensures c.loop-c.c-index c.loop-c-test.true

pub returns-then-c-b : goal.returns-then-c-b
returns-then-c-b c = λ l h.
    let left = c.left-c-items.result.now in
    let i = c.loop-c.c-index in
    none_after c.args.instance.now l (drop i l) (drop (i + 1) l) (entry_of l c.args.b) (entry_of l (slice_index left i))
    (left_next _ l _ left h c.left-c-items.ensures i c.loop-c-test.true) (c.loop-c.invariant l h)
    (rises_left l i h.claim.rises) c.if-c-b.true

pub returns-then-is_twin : goal.returns-then-is_twin
returns-then-is_twin c = λ l h.
    let left = c.left-c-items.result.now in
    let i = c.loop-c.c-index in
    twin_here c.args.instance.now l (drop i l) (drop (i + 1) l) (entry_of l c.args.b) (entry_of l (slice_index left i))
    (left_next _ l _ left h c.left-c-items.ensures i c.loop-c-test.true) (c.loop-c.invariant l h)
    (sym (c.is_twin.ensures l h) ∙ c.if-is_twin.true)

pub loop-c-preserved : goal.loop-c-preserved
loop-c-preserved c = λ l h.
    let left = c.left-c-items.result.now in
    let i = c.loop-c.c-index in
    twin_next c.args.instance.now l (drop i l) (drop (i + 1) l) (entry_of l c.args.b) (entry_of l (slice_index left i))
    (left_next _ l _ left h c.left-c-items.ensures i c.loop-c-test.true) (c.loop-c.invariant l h)
    (sym (c.is_twin.ensures l h) ∙ c.if-is_twin.false)

pub returns : goal.returns
returns c = λ l h.
    let i = c.loop-c.c-index in
    none_at_all c.args.instance.now l (drop i l) (entry_of l c.args.b)
    (left_past _ l _ c.left-c-items.result.now h c.left-c-items.ensures i c.loop-c-test.false) (c.loop-c.invariant l h)
