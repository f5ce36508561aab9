use Rattle.log_text.proofs.Saying.{says_prefix_free}
use Rattle.log_text.proofs.spelling_laws.bytes_say_one_log.Goals as goal

pub returns : goal.returns
returns c = says_prefix_free
