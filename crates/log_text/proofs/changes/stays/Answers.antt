use Rattle.log_text.proofs.Carrying.{reached}
use Rattle.log_text.proofs.changes.stays.Goals as goal

pub returns-clause-reached : goal.returns-clause-reached
returns-clause-reached c = reached c.args.base.now c.args.place c.args.b c.requires.rises c.requires.within
    c.if-place-base.false
