use Rattle.std.proofs.Common.{◌≡◌, ◌+◌, arith, map, slice_index_or, subst, sym, take, true}
use Rattle.std.proofs.lemmas.List.{take_more}
use Rattle.branching.proofs.Words.{Entry, IsIn, cite_value, level_inside, not_excluded}
use Rattle.branching.specs.Cites.{IsCiteFor}
use Rattle.branching.specs.declared.notes.Refuted.{Refuted}
use Rattle.branching.proofs.Along.{place_has, place_in, place_is}
use Rattle.branching.proofs.Noted.{zip_more, zip_none}
use Rattle.branching.proofs.cites.cites.Goals as goal

pub loop-i-init : goal.loop-i-init
loop-i-init c =
    zip_none cite_value (IsCiteFor c.args.task.now.instance.now c.args.claim.now c.args.refuted.now)
    c.pairs-pairs.result.now c.in_ok-cites.cites.items c.in_ok-cites.ensures.items

pub cite_for-requires-clause-b_in : goal.cite_for-requires-clause-b_in
cite_for-requires-clause-b_in c =
    let l = c.args.claim.now in
    let k = level_inside _ l _ c.requires.levels _
    (place_has l c.pairs-pairs.result.now c.loop-i.i c.pairs-pairs.ensures.value c.loop-i-test.true) in
    omega arith

pub loop-i-preserved : goal.loop-i-preserved
loop-i-preserved c =
    let I = c.args.task.now.instance.now in
    let l = c.args.claim.now in
    let h = c.requires.levels in
    let items = c.pairs-pairs.result.now in
    let i = c.loop-i.i in
    let x : Entry = slice_index_or items i (0, 0) in
    let R = IsCiteFor I l c.args.refuted.now in
    let is = place_is l items i c.pairs-pairs.ensures.value c.loop-i-test.true h.claim.rises in
    let noted = c.requires.noted x (place_in l items i c.pairs-pairs.ensures.value c.loop-i-test.true) in
    let cite = c.cite_for.ensures l h (c.least_end-least.ensures l h) (subst (λ (e : Entry). not_excluded I l e ≡ true →
    IsIn e.0 (map (λ (r : Refuted). r.buffer) c.args.refuted.now)) is noted) in
    zip_more cite_value R _ (take (i + 1) items) x c.loop-i.cites.items c.push.new.self.items c.cite_for.result
    (take_more items i (0, 0) c.loop-i-test.true) c.in_ok-push.ensures.items
    (subst (λ (e : Entry). R e (cite_value c.cite_for.result)) (sym is) cite) c.loop-i.invariant
