use Rattle.size_classes.proofs.PlainLemmas.{first_is_rough, plain_from}
use Rattle.size_classes.proofs.laws.smooth_is_plain.Goals as goal

pub returns-clause-none : goal.returns-clause-none
returns-clause-none c = plain_from

pub returns-clause-some : goal.returns-clause-some
returns-clause-some c = first_is_rough
