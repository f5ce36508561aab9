use Rattle.lifetime.proofs.Switching.{kept_in, put_in, stands_at, would_stand_at}
use Rattle.claim_levels.proofs.left.put_in.Goals as goal

pub returns-then-belongs_at-clause-switched : goal.returns-then-belongs_at-clause-switched
returns-then-belongs_at-clause-switched c =
    rw c.in_ok-insert.ensures.items (put_in c.args.left.now.items c.args.b c.args.guess (record {
      rises = c.requires;
      less = rw c.deref.ensures.value at c.belongs_at.ensures.less c.if-belongs_at.true;
      greater = rw c.deref.ensures.value at c.belongs_at.ensures.greater c.if-belongs_at.true;
    }))

pub returns-in-Ok-clause-switched : goal.returns-in-Ok-clause-switched
returns-in-Ok-clause-switched c = kept_in c.args.left.now.items c.args.b c.in-Ok.field-0
    (stands_at c.args.left.now.items c.deref-2.result.now c.args.b c.in-Ok.field-0 c.requires c.deref-2.ensures.value
    c.in-Ok.ensures.bound c.in-Ok.ensures.position)

pub returns-in_ok-insert-in-Err-clause-switched : goal.returns-in_ok-insert-in-Err-clause-switched
returns-in_ok-insert-in-Err-clause-switched c = rw c.in_ok-insert-in-Err.ensures.items
    (put_in c.args.left.now.items c.args.b c.in-Err.place
    (would_stand_at c.args.left.now.items c.deref-2.result.now c.args.b c.in-Err.place c.requires
    c.deref-2.ensures.value c.in-Err.ensures.position))
