use Rattle.log_text.specs.Edits.{change_value}
use Rattle.log_text.proofs.Carrying.{decided}
use Rattle.log_text.proofs.changes.does_change.Goals as goal

pub returns : goal.returns
returns c = decided c.args.base.now c.args.place (change_value c.args.change) c.changes_pair.result c.requires.rises
    c.requires.within c.if-place-base.false c.requires.reached c.changes_pair.ensures
