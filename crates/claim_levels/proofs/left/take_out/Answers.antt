use Rattle.lifetime.proofs.Switching.{kept_out, stands_at, taken_out, would_stand_at}
use Rattle.claim_levels.proofs.left.take_out.Goals as goal

pub returns-in-Ok : goal.returns-in-Ok
returns-in-Ok c = rw c.remove.ensures.items
    (taken_out c.args.left.now.items c.args.b c.in-Ok.place
    (stands_at c.args.left.now.items c.deref.result.now c.args.b c.in-Ok.place c.requires c.deref.ensures.value
    c.in-Ok.ensures.bound c.in-Ok.ensures.position))

pub returns-in-Err : goal.returns-in-Err
returns-in-Err c = kept_out c.args.left.now.items c.args.b c.in-Err.field-0
    (would_stand_at c.args.left.now.items c.deref.result.now c.args.b c.in-Err.field-0 c.requires
    c.deref.ensures.value c.in-Err.ensures.position)
