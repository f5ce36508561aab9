use Rattle.std.proofs.Common.{ap}
use Rattle.lifetime.proofs.Switching.{changed_found, changed_none, kept_in, kept_out, put_in, stands_at, taken_out, would_stand_at}
use Rattle.lifetime.proofs.sweep.switch.Goals.{then-not-wanted, else-not-wanted}
use Rattle.lifetime.proofs.sweep.switch.Goals as goal

pub returns-after-not-wanted-clause-switched : goal.returns-after-not-wanted-clause-switched
returns-after-not-wanted-clause-switched c =
    let s = stands_at c.args.numbers.now.items c.deref.result.now c.args.b c.in-Ok.place c.requires
    c.deref.ensures.value c.in-Ok.ensures.bound c.in-Ok.ensures.position in
    elim c.if-not-wanted.branch [
      | then-not-wanted w ↦ rw (w.if-not-wanted.true, ap (λ v. v.items) w.numbers-is, w.remove.ensures.items)
          (taken_out c.args.numbers.now.items c.args.b c.in-Ok.place s)
      | else-not-wanted w ↦ rw (w.if-not-wanted.false, ap (λ v. v.items) w.numbers-is)
          (kept_in c.args.numbers.now.items c.args.b c.in-Ok.place s)
    ]

pub returns-after-not-wanted-clause-changed : goal.returns-after-not-wanted-clause-changed
returns-after-not-wanted-clause-changed c = changed_found c.args.numbers.now.items c.args.b c.in-Ok.place c.args.wanted
    (stands_at c.args.numbers.now.items c.deref.result.now c.args.b c.in-Ok.place c.requires
    c.deref.ensures.value c.in-Ok.ensures.bound c.in-Ok.ensures.position)

pub returns-in_ok-insert-in-Err-clause-switched : goal.returns-in_ok-insert-in-Err-clause-switched
returns-in_ok-insert-in-Err-clause-switched c = rw (c.if-wanted.true, c.in_ok-insert-in-Err.ensures.items)
    (put_in c.args.numbers.now.items c.args.b c.in-Err.place
    (would_stand_at c.args.numbers.now.items c.deref.result.now c.args.b c.in-Err.place c.requires
    c.deref.ensures.value c.in-Err.ensures.position))

pub returns-in_ok-insert-in-Err-clause-changed : goal.returns-in_ok-insert-in-Err-clause-changed
returns-in_ok-insert-in-Err-clause-changed c = changed_none c.args.numbers.now.items c.args.b c.in-Err.place
    c.args.wanted
    (would_stand_at c.args.numbers.now.items c.deref.result.now c.args.b c.in-Err.place c.requires
    c.deref.ensures.value c.in-Err.ensures.position)

pub returns-else-wanted-clause-switched : goal.returns-else-wanted-clause-switched
returns-else-wanted-clause-switched c = rw (c.if-wanted.false)
    (kept_out c.args.numbers.now.items c.args.b c.in-Err.place
    (would_stand_at c.args.numbers.now.items c.deref.result.now c.args.b c.in-Err.place c.requires
    c.deref.ensures.value c.in-Err.ensures.position))

pub returns-else-wanted-clause-changed : goal.returns-else-wanted-clause-changed
returns-else-wanted-clause-changed c = changed_none c.args.numbers.now.items c.args.b c.in-Err.place c.args.wanted
    (would_stand_at c.args.numbers.now.items c.deref.result.now c.args.b c.in-Err.place c.requires
    c.deref.ensures.value c.in-Err.ensures.position)
