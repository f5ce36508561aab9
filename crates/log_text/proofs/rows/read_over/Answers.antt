use Rattle.log_text.proofs.RowLemmas.{over_no_claim, over_read, passed_on}
use Rattle.log_text.proofs.Splits.{newline_ends_spelling}
use Rattle.log_text.proofs.rows.read_over.Goals as goal

pub read_spelling-requires : goal.read_spelling-requires
read_spelling-requires c = newline_ends_spelling

pub returns-in_err-claim : goal.returns-in_err-claim
returns-in_err-claim c = passed_on _ _ _ _ _ c.from_residual.ensures.1 c.in_err-claim.ensures
    (over_no_claim _ _ _ _ _ _ c.in-Some.ensures.some)

pub returns : goal.returns
returns c = over_read _ _ _ _ _ _ _ _ c.in-Some.ensures.some c.in_ok-claim.ensures
