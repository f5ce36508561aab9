use Rattle.log_text.proofs.Carrying.{past_else, past_then}
use Rattle.log_text.proofs.changes.past.Goals as goal

pub returns-then-base-place-clause-rest : goal.returns-then-base-place-clause-rest
returns-then-base-place-clause-rest c = past_then c.args.base.now c.args.place c.args.b c.requires.rises
    c.requires.within c.if-place-base.false c.if-base-place.true

pub returns-else-base-place-clause-rest : goal.returns-else-base-place-clause-rest
returns-else-base-place-clause-rest c = past_else c.args.base.now c.args.place c.args.b c.requires.rises
    c.requires.within c.if-place-base.false c.requires.reached c.if-base-place.false
