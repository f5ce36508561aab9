use Rattle.layout_report.proofs.Filling.{IsFilling}
use Rattle.layout_report.proofs.row_list.with_free.Given as goal

abbrev pub invariant-loop-row : goal.invariant-loop-row
invariant-loop-row l = IsFilling l.height l.live l.row-index l.top l.rows.items
