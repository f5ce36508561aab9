use Rattle.log_text.proofs.RowLemmas.{with_first_byte}
use Rattle.log_text.proofs.rows.read_spelling.Goals as goal

pub returns : goal.returns
returns c = with_first_byte _ _ _ _ _ _ c.requires c.if-version-ne-DIFFERENCES.false c.if-not-take.ensures
    c.read_difference.ensures
