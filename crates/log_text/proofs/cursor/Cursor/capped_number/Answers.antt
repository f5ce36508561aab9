use Rattle.log_text.proofs.ShortNumbers.{capped_read, short_read}
use Rattle.log_text.proofs.cursor.Cursor.capped_number.Goals as goal

pub returns-in-Some-clause-some : goal.returns-in-Some-clause-some
returns-in-Some-clause-some c = short_read _ _ _ c.in-Some.short.count _ c.self.view_is c.in-Some.ensures.some
    c.split_at.ensures.back

pub returns-clause-some : goal.returns-clause-some
returns-clause-some c = capped_read _ _ _ _ c.in_ok-number.ensures.some c.cap.ensures
