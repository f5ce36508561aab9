use Rattle.std.proofs.Common.{◌+◌, arith, drop, refl, slice_index, subst, sym}
use Rattle.branching.proofs.Words.{entry_in, entry_of}
use Rattle.branching.proofs.Ends.{IsLeastBut, least_keep, least_of_all, least_take}
use Rattle.branching.proofs.LeftEntries.{left_has, left_next, left_past, left_some}
use Rattle.branching.proofs.ending.least_end.Goals.{else-end-least, then-end-least}
use Rattle.branching.proofs.ending.least_end.Goals as goal

pub end_of-end-requires-clause-b_in : goal.end_of-end-requires-clause-b_in
end_of-end-requires-clause-b_in c = left_some _ _ c.left-b-items.ensures c.loop-b.b-index c.loop-b-test.true

pub loop-b-preserved : goal.loop-b-preserved
loop-b-preserved c = λ l h.
    let I = c.args.instance.now in
    let left = c.left-b-items.result.now in
    let i = c.loop-b.b-index in
    let b = slice_index left i in
    let s = left_next I l _ left h c.left-b-items.ensures i c.loop-b-test.true in
    let j = left_has I l _ left h c.left-b-items.ensures i c.loop-b-test.true in
    let end = c.end_of-end.ensures.value l h in
    elim c.if-end-least.branch [
      | then-end-least w ↦ subst (IsLeastBut I l (drop (i + 1) l)) (sym w.least-is)
          (least_take I l (drop i l) (drop (i + 1) l) (entry_of l b) _ s (c.loop-b.invariant l h) _ h.claim.rises
          (entry_in l b j) refl end w.if-end-least.true)
      | else-end-least w ↦ subst (IsLeastBut I l (drop (i + 1) l)) (sym w.least-is)
          (least_keep I l (drop i l) (drop (i + 1) l) (entry_of l b) _ s (c.loop-b.invariant l h)
          (let k = w.if-end-least.false in omega (arith, k, end)))
    ]

pub returns : goal.returns
returns c = λ l h.
    let I = c.args.instance.now in
    let i = c.loop-b.b-index in
    least_of_all I l (drop i l) _
    (left_past I l _ c.left-b-items.result.now h c.left-b-items.ensures i c.loop-b-test.false) (c.loop-b.invariant l h)
