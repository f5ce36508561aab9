use Rattle.log_text.proofs.ReadLemmas.{if_none, marked_no_mark, marked_no_second, marked_read}
use Rattle.log_text.proofs.cursor.Cursor.marked.Goals as goal

pub returns-in_err-mark-clause-none : goal.returns-in_err-mark-clause-none
returns-in_err-mark-clause-none c = if_none _ (marked_no_mark _ _ _ c.in_ok-first.ensures.some c.in_err-mark.ensures)

pub returns-in_err-second-clause-none : goal.returns-in_err-second-clause-none
returns-in_err-second-clause-none c = if_none _ (marked_no_second _ _ _ _ _ c.in_ok-first.ensures.some
    c.in_ok-mark.ensures c.in_err-second.ensures.none)

pub returns-clause-some : goal.returns-clause-some
returns-clause-some c = marked_read _ _ _ _ _ _ _ c.in_ok-first.ensures.some c.in_ok-mark.ensures
    c.in_ok-second.ensures.some
