use Rattle.log_text.proofs.ReadChanges.{drop_none, drop_read, put_read}
use Rattle.log_text.proofs.ReadLemmas.{if_none}
use Rattle.log_text.proofs.changes.read_change.Goals as goal

pub returns-in_err-b-clause-none : goal.returns-in_err-b-clause-none
returns-in_err-b-clause-none c = if_none _ (drop_none _ _ c.if-take.ensures c.in_err-b.ensures.none)

pub returns-then-take-clause-some : goal.returns-then-take-clause-some
returns-then-take-clause-some c = drop_read _ _ _ _ c.if-take.ensures c.in_ok-b.ensures.some

pub returns-clause-some : goal.returns-clause-some
returns-clause-some c = put_read _ _ _ _ c.if-take.ensures.0 c.in_ok-pair.ensures.some
