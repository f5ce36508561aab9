use Rattle.log_text.proofs.ReadLemmas.{pair_none, pair_read}
use Rattle.log_text.proofs.items.read_pair.Goals as goal

pub returns-then-read-eq61-clause-some : goal.returns-then-read-eq61-clause-some
returns-then-read-eq61-clause-some c = pair_read _ _ _ _ _ c.in_ok-read.ensures.some c.if-read-eq61.true

pub returns-else-read-eq61-clause-none : goal.returns-else-read-eq61-clause-none
returns-else-read-eq61-clause-none c = pair_none _ _ _ _ _ c.in_ok-read.ensures.some c.if-read-eq61.false
