use Rattle.std.proofs.Common.{◌≡◌}
use Rattle.line_index.specs.Watches.{AreNoted}
use Rattle.line_index.specs.Watching.{AreMoved}
use Rattle.line_index.proofs.RowSearch.{FailOrBelow}
use Rattle.line_index.proofs.row_search.find_in.Given as goal

abbrev pub invariant-loop-p : goal.invariant-loop-p
invariant-loop-p l = record {
  moved : AreMoved l.log.lines l.now l.initial.table.watches l.table.watches;
  scale : l.table.scale ≡ l.initial.table.scale;
  noted : AreNoted l.log.lines l.initial.table.rows → AreNoted l.log.lines l.table.rows;
  seen : AreNoted l.log.lines l.initial.table.rows →
      FailOrBelow l.log.lines l.initial.table.scale l.now l.b l.low l.table.watches l.p;
}
