use Rattle.std.proofs.Common.{sym}
use Rattle.csv_instance.proofs.ChangedLemmas.{none_here}
use Rattle.csv_instance.proofs.changed.first_change.Goals as goal

pub returns-else-change-number : goal.returns-else-change-number
returns-else-change-number c = λ from.
    let first = c.in-Some.ensures.item.1 in
    let other = rw first at c.if-change-number.false in
    sym (none_here c.args.number c.args.left.now c.in-Some.change.now from other)
