use Rattle.std.proofs.Common.{◌∙◌, ap, length, slice_set, subst, sym, take, ◌<◌}
use Rattle.dsa_terms.specs.Claims.{IsIn}
use Rattle.line_index.specs.Rows.{AreAmong, IsUnwatched, WatchedLines}
use Rattle.line_index.specs.Watches.{row_at}
use Rattle.line_index.proofs.ItemLemmas.{from_swap_remove, take_swap_remove}
use Rattle.line_index.proofs.WatchRows.{among_row, before_taken, filed_taken, mark_of_none, row_within, within_old}
use Rattle.line_index.proofs.watch_table.WatchTable.take.Goals as goal
use Rattle.line_index.proofs.watch_table.WatchTable.take.Goals.{After-take}

inside : (c : After-take) → c.args.i < length (row_at c.self.inside.rows.items c.args.p)
inside c =
    subst (λ (t : WatchedLines). c.args.i < length (row_at t.rows c.args.p)) (sym c.self.view_is) c.requires.in_row

in_old : (c : After-take) → c.args.i < length c.index_mut-row.result.now
in_old c = within_old c.self.inside.rows.items c.args.p c.args.i c.index_mut-row.result.now
    c.index_mut-row.ensures.value (inside c)

pub invariant_of-self : goal.invariant_of-self
invariant_of-self c =
    let rows = c.self.inside.rows.items in
    let k = (goal.at.invariant_of-self c).After-take in
    filed_taken _ rows _ c.args.p c.index_mut-row.result.now c.take.new.self
    (row_within rows c.args.p c.args.i (inside k)) c.index_mut-row.ensures.value c.self.invariant c.args.i (in_old k)
    c.take.ensures
    (subst (λ (t : WatchedLines). IsUnwatched t c.args.p c.args.i) (sym c.self.view_is) c.requires.unwatched)

pub returns-clause-before : goal.returns-clause-before
returns-clause-before c =
    let rows = c.self.inside.rows.items in
    let old = c.index_mut-row.result.now in
    let k = (goal.at.returns-clause-before c).After-take in
    before_taken rows c.args.p c.args.i old c.take.new.self (row_within rows c.args.p c.args.i (inside k))
    c.index_mut-row.ensures.value
    (ap (take c.args.i) (c.take.ensures mark_of_none) ∙ take_swap_remove old c.args.i mark_of_none (in_old k))
    ∙ ap (λ (t : WatchedLines). take c.args.i (row_at t.rows c.args.p)) c.self.view_is

pub returns-clause-among : goal.returns-clause-among
returns-clause-among c =
    let rows = c.self.inside.rows.items in
    let old = c.index_mut-row.result.now in
    let k = (goal.at.returns-clause-among c).After-take in
    subst (λ (t : WatchedLines). AreAmong t.rows (slice_set rows c.args.p c.take.new.self)) c.self.view_is
    (among_row rows c.args.p old c.take.new.self (row_within rows c.args.p c.args.i (inside k))
    c.index_mut-row.ensures.value (λ x i. from_swap_remove old c.args.i mark_of_none x (in_old k)
    (subst (IsIn x) (c.take.ensures mark_of_none) i)))
