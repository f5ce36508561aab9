use Rattle.log_text.proofs.Saying.{says_kept}
use Rattle.log_text.proofs.spelling_laws.what_is_said_is_kept.Goals as goal

pub returns : goal.returns
returns c = says_kept
