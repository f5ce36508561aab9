use Rattle.std.proofs.Common.{◌<◌, length, subst, sym}
use Rattle.line_index.specs.Rows.{AreAppended, AreWith, WatchedLines, mark_of, row_of}
use Rattle.dsa_terms.specs.Claims.{IsIn}
use Rattle.line_index.specs.Watches.{row_at}
use Rattle.line_index.proofs.WatchRows.{filed_set}
use Rattle.line_index.proofs.watch_table.WatchTable.file.Goals as goal

pub invariant_of-self : goal.invariant_of-self
invariant_of-self c =
    let m = mark_of c.args.k c.args.watch.1 c.args.note in
    filed_set c.self.inside.watches.items c.self.inside.rows.items c.self.inside.scale c.args.k c.args.note c.args.watch
    (subst (λ (t : WatchedLines). c.args.k < length t.watches) (sym c.self.view_is)
    (let q = c.in_ok-add.ensures.watches in let k = c.requires in rw q k))
    (subst (λ (t : WatchedLines). IsIn m (row_at t.rows (row_of t.scale c.args.watch))) (sym c.self.view_is)
    c.in_ok-add.ensures.added) c.self.invariant

pub returns-clause-rows : goal.returns-clause-rows
returns-clause-rows c = subst (λ (t : WatchedLines). AreAppended c.args.self.now.rows t.rows) (sym c.self.view_is)
    c.in_ok-add.ensures.rows

pub returns-clause-with : goal.returns-clause-with
returns-clause-with c = subst (λ (t : WatchedLines). AreWith (mark_of c.args.k c.args.watch.1 c.args.note)
    c.args.self.now.rows t.rows) (sym c.self.view_is) c.in_ok-add.ensures.with
