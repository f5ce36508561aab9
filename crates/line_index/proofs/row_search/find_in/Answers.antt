use Rattle.std.proofs.Common.{◌∙◌, ◌-◌, ℕ, arith, refl, subst, sym}
use Rattle.line_index.specs.Watching.{FailInRow}
use Rattle.line_index.proofs.Looking.{from_none}
use Rattle.line_index.proofs.RowSearch.{fail_at_end, fail_or_below_last, fail_or_below_next}
use Rattle.line_index.proofs.WatchLemmas.{moved_refl, moved_trans}
use Rattle.line_index.proofs.row_search.find_in.Goals as goal

pub loop-p-init : goal.loop-p-init
loop-p-init c =
    let lines = c.args.log.now.lines in
    let levels = c.args.now.now in
    let table = c.args.table.now in
    record {
      moved = moved_refl lines levels table.watches;
      scale = refl;
      noted = λ h. h;
      seen = λ h. fail_or_below_last lines table.scale levels c.args.b c.args.low table.watches c.level_at-high.result
          c.row_of-last.result c.level_at-high.ensures.value
          (let t = c.if-high-low.false in omega arith) c.row_of-last.ensures;
    }

pub loop-p-preserved : goal.loop-p-preserved
loop-p-preserved c =
    let i = c.loop-p.invariant in
    let lines = c.args.log.now.lines in
    let levels = c.args.now.now in
    let after = c.find_in_row.new.table in
    let found = c.in_ok-found.ensures in
    record {
      moved = moved_trans _ _ _ _ _ i.moved found.moved;
      scale = found.scale ∙ i.scale;
      noted = λ h. found.noted (i.noted h);
      seen = λ h. fail_or_below_next lines c.args.table.now.scale levels c.args.b c.args.low c.loop-p.table.watches
          after.watches c.loop-p.p (c.loop-p.p - 1) (let t = c.loop-p-test.true in omega arith) found.moved
          (subst (λ (scale : ℕ). FailInRow lines after.watches scale levels c.args.b c.args.low (c.loop-p.p - 1))
          i.scale (from_none _ (sym c.if-is_some.ensures) (found.none (i.noted h)))) (i.seen h);
    }

pub returns-clause-none : goal.returns-clause-none
returns-clause-none c = λ h. fail_at_end c.args.log.now.lines c.args.table.now.scale c.args.now.now c.args.b c.args.low
    c.loop-p.table.watches c.loop-p.p c.row_of-first.result
    c.row_of-first.ensures (let t = c.loop-p-test.false in omega arith) (c.loop-p.invariant.seen h)
