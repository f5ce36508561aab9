use Rattle.std.proofs.Common.{◌≡◌, ◌<◌, ◌≤◌, ◌+◌, ◌∙◌, ℕ, ap, arith, length, slice_set, subst, sym}
use Rattle.dsa_terms.specs.Claims.{Entry, IsIn}
use Rattle.line_index.specs.Rows.{WatchedLines, row_of}
use Rattle.line_index.specs.Watches.{row_at}
use Rattle.line_index.proofs.ItemLemmas.{one_more}
use Rattle.line_index.proofs.WatchRows.{appended_from, appended_row, filed_appended, in_new_row, with_from, with_row}
use Rattle.line_index.proofs.watch_table.WatchTable.add.Goals as goal
use Rattle.line_index.proofs.watch_table.WatchTable.add.Goals.{In_ok-push}

within : (c : In_ok-push) → c.row_of-p.result < length c.self.inside.rows.items
within c =
    let n = c.in_ok-make_rows.ensures.count in
    let k = subst (λ (t : WatchedLines). c.row_of-p.result + 1 ≤ length t.rows) (sym c.self.view_is) n in
    omega arith

pub invariant_of-self-2 : goal.invariant_of-self-2
invariant_of-self-2 c =
    let rows = c.self.inside.rows.items in
    let k = (goal.at.invariant_of-self-2 c).In_ok-push in
    filed_appended _ rows _ _
    (appended_row rows c.row_of-p.result c.index_mut-row.result.now c.push.new.self c.args.mark (within k)
    c.index_mut-row.ensures.value c.in_ok-push.ensures.appended) c.self.invariant

same : (c : In_ok-push) → (p : ℕ) → row_at c.self.inside.rows.items p ≡ row_at c.args.self.now.rows p
same c p = ap (λ (t : WatchedLines). row_at t.rows p) c.self.view_is ∙ c.make_rows.ensures.rows p

pub returns-clause-rows : goal.returns-clause-rows
returns-clause-rows c =
    let rows = c.self.inside.rows.items in
    let k = (goal.at.returns-clause-rows c).In_ok-push in
    appended_from c.args.self.now.rows rows _ (same k)
    (appended_row rows c.row_of-p.result c.index_mut-row.result.now c.push.new.self c.args.mark (within k)
    c.index_mut-row.ensures.value c.in_ok-push.ensures.appended)

pub returns-clause-with : goal.returns-clause-with
returns-clause-with c =
    let rows = c.self.inside.rows.items in
    let old = c.index_mut-row.result.now in
    let k = (goal.at.returns-clause-with c).In_ok-push in
    with_from c.args.self.now.rows rows _ c.args.mark (same k)
    (with_row rows c.row_of-p.result old c.push.new.self c.args.mark (within k)
    c.index_mut-row.ensures.value (one_more old c.push.new.self c.args.mark c.in_ok-push.ensures.appended))

pub returns-clause-added : goal.returns-clause-added
returns-clause-added c =
    let rows = c.self.inside.rows.items in
    let k = (goal.at.returns-clause-added c).In_ok-push in
    let row = c.push.new.self in
    let scale = ap (λ (t : WatchedLines). t.scale) c.self.view_is ∙ c.make_rows.ensures.scale in
    let e : Entry = (c.args.b, c.args.mark.bound) in
    subst (λ (p : ℕ). IsIn c.args.mark (row_at (slice_set rows c.row_of-p.result row) p))
    (c.row_of-p.ensures ∙ ap (λ (w : ℕ). row_of w e) (sym scale))
    (in_new_row rows c.row_of-p.result c.index_mut-row.result.now row c.args.mark (within k)
    c.in_ok-push.ensures.appended)
