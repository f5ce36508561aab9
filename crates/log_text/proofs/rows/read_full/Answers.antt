use Rattle.log_text.proofs.RowLemmas.{fault_for, full_read, no_spelling}
use Rattle.log_text.proofs.rows.read_full.Goals as goal

pub read_claim-requires : goal.read_claim-requires
read_claim-requires c = λ r. (c.requires r).ends

pub returns-in-Ok : goal.returns-in-Ok
returns-in-Ok c = λ v n. full_read v _ _ _ _ c.in-Ok.ensures

pub returns-in-Err : goal.returns-in-Err
returns-in-Err c = λ v n. fault_for _ (λ h. no_spelling v c.args.end.now c.args.cursor.now h n) c.in-Err.ensures
