use Rattle.std.proofs.Common.{◌≡◌, ◌∙◌, Some, ap, arith, length, slice_get, slice_set, subst, sym, take, ◌<◌, List, [], slice_index_or}
use Rattle.std.proofs.lemmas.List.{get_or_read, take-set-le}
use Rattle.std.proofs.lemmas.Option.{slice_get-get_or}
use Rattle.dsa_terms.specs.Claims.{IsIn}
use Rattle.line_index.specs.declared.watch_row.Mark.{Mark}
use Rattle.line_index.specs.Rows.{AreWith, WatchedLines, with_note}
use Rattle.line_index.specs.Watches.{row_at}
use Rattle.line_index.proofs.ItemLemmas.{from_set}
use Rattle.line_index.proofs.WatchRows.{before_taken, filed_noted, mark_of_none, row_within, with_row, within_old}
use Rattle.line_index.proofs.watch_table.WatchTable.set_note.Goals as goal
use Rattle.line_index.proofs.watch_table.WatchTable.set_note.Goals.{After-set_note}

inside : (c : After-set_note) → c.args.i < length (row_at c.self.inside.rows.items c.args.p)
inside c =
    subst (λ (t : WatchedLines). c.args.i < length (row_at t.rows c.args.p)) (sym c.self.view_is) c.requires

in_old : (c : After-set_note) → c.args.i < length c.index_mut-row.result.now
in_old c = within_old c.self.inside.rows.items c.args.p c.args.i c.index_mut-row.result.now
    c.index_mut-row.ensures.value (inside c)

abbrev there : (c : After-set_note) → Mark
there c = slice_index_or c.index_mut-row.result.now c.args.i mark_of_none

is_there : (c : After-set_note) → slice_get c.index_mut-row.result.now c.args.i ≡ Some (there c)
is_there c = slice_get-get_or c.index_mut-row.result.now c.args.i mark_of_none (in_old c)

pub invariant_of-self : goal.invariant_of-self
invariant_of-self c =
    let rows = c.self.inside.rows.items in
    let k = (goal.at.invariant_of-self c).After-set_note in
    filed_noted _ rows _ c.args.p c.index_mut-row.result.now c.set_note.new.self
    (row_within rows c.args.p c.args.i (inside k)) c.index_mut-row.ensures.value c.self.invariant c.args.i c.args.note
    (there k) (in_old k) (is_there k) (c.set_note.ensures (there k) (is_there k))

pub returns-clause-before : goal.returns-clause-before
returns-clause-before c =
    let rows = c.self.inside.rows.items in
    let old = c.index_mut-row.result.now in
    let k = (goal.at.returns-clause-before c).After-set_note in
    before_taken rows c.args.p c.args.i old c.set_note.new.self (row_within rows c.args.p c.args.i (inside k))
    c.index_mut-row.ensures.value
    (ap (take c.args.i) (c.set_note.ensures (there k) (is_there k))
    ∙ take-set-le c.args.i old c.args.i (with_note (there k) c.args.note) (omega arith))
    ∙ ap (λ (t : WatchedLines). take c.args.i (row_at t.rows c.args.p)) c.self.view_is

pub returns-clause-with : goal.returns-clause-with
returns-clause-with c = λ m is.
    let rows = c.self.inside.rows.items in
    let old = c.index_mut-row.result.now in
    let new = with_note m c.args.note in
    let k = (goal.at.returns-clause-with c).After-set_note in
    let lt = row_within rows c.args.p c.args.i (inside k) in
    let at : slice_get old c.args.i ≡ Some m =
    ap (λ (xs : List Mark). slice_get xs c.args.i) (get_or_read rows c.args.p old lt c.index_mut-row.ensures.value [])
    ∙ ap (λ (t : WatchedLines). slice_get (row_at t.rows c.args.p) c.args.i) c.self.view_is ∙ is in
    subst (λ (t : WatchedLines). AreWith new t.rows (slice_set rows c.args.p c.set_note.new.self)) c.self.view_is
    (with_row rows c.args.p old c.set_note.new.self new lt c.index_mut-row.ensures.value
    (λ x i. from_set old c.args.i new x (subst (IsIn x) (c.set_note.ensures m at) i)))
