use Rattle.log_text.proofs.SameLogs.{text_split}
use Rattle.log_text.proofs.laws.texts_are_prefix_free.Goals as goal

pub returns : goal.returns
returns c = text_split
