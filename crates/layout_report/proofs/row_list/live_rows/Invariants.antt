use Rattle.std.proofs.Common.{◌≡◌}
use Rattle.layout_report.proofs.Living.{rows_before}
use Rattle.layout_report.proofs.row_list.live_rows.Given as goal

abbrev pub invariant-loop-b : goal.invariant-loop-b
invariant-loop-b l = l.rows.items ≡ rows_before l.instance l.offsets l.moment l.b
