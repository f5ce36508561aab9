use Rattle.std.proofs.Common.{◌≡◌, ◌≤◌, length}
use Rattle.line_index.specs.Watches.{AreNoted, row_at}
use Rattle.line_index.specs.Watching.{AreMoved}
use Rattle.line_index.proofs.RowSearch.{FailOrBefore}
use Rattle.line_index.proofs.row_search.find_in_row.Given as goal

abbrev pub invariant-loop-i : goal.invariant-loop-i
invariant-loop-i l = record {
  moved : AreMoved l.log.lines l.now l.initial.table.watches l.table.watches;
  within : l.i ≤ length (row_at l.table.rows l.p);
  scale : l.table.scale ≡ l.initial.table.scale;
  noted : AreNoted l.log.lines l.initial.table.rows → AreNoted l.log.lines l.table.rows;
  seen : AreNoted l.log.lines l.initial.table.rows →
      FailOrBefore l.log.lines l.initial.table.scale l.now l.b l.low l.table.watches l.table.rows l.p l.i;
}
