use Rattle.std.proofs.Common.{◌≡◌, ◌++◌, drop}
use Rattle.csv_instance.specs.Rows.{values_of}
use Rattle.cyclic_plan.specs.Unrolled.{cycle_rows_fault, wraps_from}
use Rattle.cyclic_plan.proofs.unrolling.wraps.Given as goal

-- the rows so far have no fault, and what is left to change is that of the rows that are left
abbrev pub invariant-loop-row : goal.invariant-loop-row
invariant-loop-row l =
    (cycle_rows_fault l.fn.period 0 (values_of l.fn.rows)
    ≡ cycle_rows_fault l.fn.period l.row (drop l.row (values_of l.fn.rows)))
    × (wraps_from l.fn.period 0 (values_of l.fn.rows)
    ≡ l.changes.items ++ wraps_from l.fn.period l.row (drop l.row (values_of l.fn.rows)))
