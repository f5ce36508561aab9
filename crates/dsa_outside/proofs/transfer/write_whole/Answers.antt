use Rattle.dsa_model.proofs.Results.{on_err}
use Rattle.dsa_outside.proofs.Written.{takes_more, keeps, written_prefix}
use Rattle.dsa_outside.proofs.transfer.write_whole.Goals as goal

pub returns-in_err-taken-clause-prefix : goal.returns-in_err-taken-clause-prefix
returns-in_err-taken-clause-prefix g c =
    on_err _ (written_prefix _ _ _ _ (keeps _ _ _ _ _ c.loop-rest.invariant c.in_err-taken.ensures.bytes))

pub returns-then-taken-eq0-clause-prefix : goal.returns-then-taken-eq0-clause-prefix
returns-then-taken-eq0-clause-prefix g c =
    written_prefix _ _ _ _ (takes_more _ _ _ _ _ _ c.loop-rest.invariant c.in_ok-taken.ensures.bytes)

pub loop-rest-preserved : goal.loop-rest-preserved
loop-rest-preserved g c = takes_more _ _ _ _ _ _ c.loop-rest.invariant c.in_ok-taken.ensures.bytes
