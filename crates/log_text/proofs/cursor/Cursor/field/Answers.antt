use Rattle.log_text.proofs.ReadLemmas.{field_no_end}
use Rattle.log_text.proofs.cursor.Cursor.field.Goals as goal

pub returns-else-take-clause-none : goal.returns-else-take-clause-none
returns-else-take-clause-none c = field_no_end _ _ _ _ c.requires c.in_ok-value.ensures.some c.if-take.ensures.1
