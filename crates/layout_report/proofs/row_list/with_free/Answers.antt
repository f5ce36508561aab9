use Rattle.std.proofs.Common.{◌+◌, ◌≤◌}
use Rattle.dsa_terms.proofs.Places.{in_from_all}
use Rattle.layout_report.specs.declared.row.Row.{Row}
use Rattle.layout_report.proofs.Filling.{filled_are_rows, filling_done}
use Rattle.layout_report.proofs.row_list.with_free.Goals as goal

pub returns : goal.returns
returns c = λ I offsets t a. rw (filling_done _ _ _ _ _ _ c.loop-row-test.false c.loop-row.invariant
    c.in_ok-push_free-2.ensures) (filled_are_rows I offsets t c.args.height c.args.live.now a
    (in_from_all (λ (row : Row). row.place + row.size ≤ c.args.height) c.args.live.now c.requires.within))
