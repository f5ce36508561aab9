use Rattle.std.proofs.Common.{inr}
use Rattle.log_text.proofs.Saying.{text2_says}
use Rattle.log_text.proofs.spelling_laws.second_texts_say_their_logs.Goals as goal

pub returns : goal.returns
returns c = λ g k h l. inr (text2_says g k h l)
