use Rattle.log_text.proofs.ReadLemmas.{if_none}
use Rattle.log_text.proofs.RowLemmas.{start_no_height, start_no_modulus, start_read}
use Rattle.log_text.proofs.rows.read_start.Goals as goal

pub returns-in_err-height-clause-none : goal.returns-in_err-height-clause-none
returns-in_err-height-clause-none c = if_none _ (start_no_height _ _ _ c.in_ok-moment.ensures.some
    c.in_err-height.ensures.none)

pub returns-in_err-modulus-clause-none : goal.returns-in_err-modulus-clause-none
returns-in_err-modulus-clause-none c = if_none _ (start_no_modulus _ _ _ _ _ c.in_ok-moment.ensures.some
    c.in_ok-height.ensures.some c.in_err-modulus.ensures.none)

pub returns-clause-some : goal.returns-clause-some
returns-clause-some c = start_read _ _ _ _ _ _ _ _ _ _ c.in_ok-moment.ensures.some c.in_ok-height.ensures.some
    c.in_ok-modulus.ensures.some c.cap.ensures c.cap-2.ensures c.cap-3.ensures
