use Rattle.log_text.proofs.LogLemmas.{header_no_capacity, header_no_count}
use Rattle.log_text.proofs.ReadLemmas.{if_none}
use Rattle.log_text.proofs.read.read_header.Goals as goal

pub returns-in_err-count-clause-none : goal.returns-in_err-count-clause-none
returns-in_err-count-clause-none c = if_none _ (header_no_count _ _ _ _ c.if-not-take.ensures
    c.in_ok-version.ensures.some c.in_err-count.ensures.none)

pub returns-in_err-capacity-clause-none : goal.returns-in_err-capacity-clause-none
returns-in_err-capacity-clause-none c = if_none _ (header_no_capacity _ _ _ _ _ _ c.if-not-take.ensures
    c.in_ok-version.ensures.some c.in_ok-count.ensures.some c.in_err-capacity.ensures.none)
