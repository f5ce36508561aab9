use Rattle.std.proofs.Common.{◌≡◌, ◌∙◌, ◌-◌, ap, arith, refl, sym}
use Rattle.dsa_terms.proofs.Lists.{same_some}
use Rattle.line_index.specs.declared.watch_row.Mark.{Mark}
use Rattle.line_index.specs.Watches.{row_at}
use Rattle.line_index.proofs.ItemLemmas.{length_of_taken}
use Rattle.line_index.proofs.Looking.{from_none}
use Rattle.line_index.proofs.RowSearch.{fail_or_before, passed_fails}
use Rattle.line_index.proofs.WatchLemmas.{moved_refl, moved_trans}
use Rattle.line_index.proofs.row_search.find_in_row.Goals as goal

pub try_mark-requires-clause-met : goal.try_mark-requires-clause-met
try_mark-requires-clause-met c = λ m at.
    let same : m.bound ≡ c.mark-mark.result.bound =
    ap (λ (m : Mark). m.bound) (same_some (sym at ∙ c.mark-mark.ensures)) in
    let lt = c.if-not-is_passed.ensures.tried refl in
    let high = c.level_at-high.ensures.value in
    omega arith

pub loop-i-preserved-else-is_some : goal.loop-i-preserved-else-is_some
loop-i-preserved-else-is_some c =
    let i = c.loop-i.invariant in
    let before = c.loop-i.table in
    let after = c.try_mark.new.table in
    let found = c.in_ok-found.ensures in
    let mark = c.mark-mark.result in
    record {
      moved = moved_trans _ _ _ _ _ i.moved found.moved;
      within = length_of_taken (row_at before.rows c.args.p) (row_at after.rows c.args.p) (c.loop-i.i - 1)
          (let w = i.within in let t = c.loop-i-test.true in omega arith) found.before;
      scale = found.scale ∙ i.scale;
      noted = λ h. found.noted (i.noted h);
      seen = λ h. fail_or_before c.args.log.now.lines c.args.table.now.scale c.args.now.now c.args.b c.args.low _ _
          before.rows after.rows c.args.p _ (c.loop-i.i - 1) mark (let t = c.loop-i-test.true in omega arith)
          c.requires.row c.mark-mark.ensures found.moved found.before
          (λ from below. from_none _ (sym c.if-is_some.ensures) (found.none mark c.mark-mark.ensures)) (i.seen h);
    }

pub loop-i-preserved : goal.loop-i-preserved
loop-i-preserved c =
    let i = c.loop-i.invariant in
    let lines = c.args.log.now.lines in
    let levels = c.args.now.now in
    let table = c.loop-i.table in
    let mark = c.mark-mark.result in
    record {
      moved = i.moved;
      within = (let w = i.within in omega arith);
      scale = i.scale;
      noted = i.noted;
      seen = λ h. fail_or_before lines c.args.table.now.scale levels c.args.b c.args.low _ _ table.rows table.rows
          c.args.p _ (c.loop-i.i - 1) mark (let t = c.loop-i-test.true in omega arith) c.requires.row
          c.mark-mark.ensures (moved_refl lines levels table.watches) refl
          (λ from below. passed_fails lines table.watches table.rows levels c.args.b c.args.p (c.loop-i.i - 1) mark
          (i.noted h) c.mark-mark.ensures (c.if-not-is_passed.ensures.passed refl from
          (let high = c.level_at-high.ensures.value in omega arith))) (i.seen h);
    }
