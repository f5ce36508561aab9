use Rattle.log_text.proofs.Saying.{says_text, text_says}
use Rattle.log_text.proofs.spelling_laws.the_versions_agree.Goals as goal

pub returns : goal.returns
returns c = λ x g. (says_text x g, text_says x g)
