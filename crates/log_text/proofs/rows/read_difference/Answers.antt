use Rattle.log_text.proofs.RowLemmas.{difference_read, fault_for, no_base_number, no_difference}
use Rattle.log_text.proofs.rows.read_difference.Goals as goal

pub returns-in_default : goal.returns-in_default
returns-in_default c = no_base_number _ _ c.requires c.in_default.ensures.none

pub returns-in-Err : goal.returns-in-Err
returns-in-Err c = fault_for _ (no_difference c.args.end.now c.args.cursor.now _ _ c.requires c.in-Some.ensures.some)
    c.in-Err.ensures

pub returns-in-Ok : goal.returns-in-Ok
returns-in-Ok c = difference_read _ _ _ _ _ _ c.in-Some.ensures.some c.in-Ok.ensures
