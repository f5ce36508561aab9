use Rattle.log_text.proofs.RowLemmas.{cases_no_cites, cases_no_claim, cases_read, passed_on}
use Rattle.log_text.proofs.Splits.{colon_ends_spelling}
use Rattle.log_text.proofs.rows.read_cases.Goals as goal

pub read_spelling-requires : goal.read_spelling-requires
read_spelling-requires c = colon_ends_spelling

pub returns-in_err-claim : goal.returns-in_err-claim
returns-in_err-claim c = passed_on _ _ _ _ _ c.from_residual.ensures.1 c.in_err-claim.ensures
    (cases_no_claim _ _)

pub returns-in_err-cites : goal.returns-in_err-cites
returns-in_err-cites c = passed_on _ _ _ _ _ c.from_residual-in_err-cites.ensures.1 c.in_err-cites.ensures
    (cases_no_cites _ _ _ _ c.in_ok-claim.ensures)

pub returns : goal.returns
returns c = cases_read _ _ _ _ _ _ c.in_ok-claim.ensures c.in_ok-cites.ensures
