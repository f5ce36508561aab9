use Rattle.log_text.proofs.SameChanges.{same_changes}
use Rattle.log_text.proofs.spelling_laws.differences_are_unique.Goals as goal

pub returns : goal.returns
returns c = same_changes
