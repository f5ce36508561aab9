use Rattle.std.proofs.Common.{arith, sym}
use Rattle.std.proofs.lemmas.List.Quantifiers.{position-Some}
use Rattle.first_fit.specs.Starts.{offsets_in}
use Rattle.planner.proofs.SixStarts.{are_six, best_is, none_within, within_at}
use Rattle.planner.proofs.starting.try_starts.Goals as goal

pub best_of-requires-clause-some : goal.best_of-requires-clause-some
best_of-requires-clause-some c =
    let n = are_six c.args.instance.now offsets_in c.in_ok-starts.starts.items c.in_ok-starts.ensures.value in
    omega arith

pub best_of-requires-clause-few : goal.best_of-requires-clause-few
best_of-requires-clause-few c =
    let n = are_six c.args.instance.now offsets_in c.in_ok-starts.starts.items c.in_ok-starts.ensures.value in
    omega arith

pub returns-in-Some : goal.returns-in-Some
returns-in-Some c =
    let I = c.args.instance.now in let ss = c.in_ok-starts.starts.items in
    let place = rw (c.in-Some.is, c.deref.ensures.value) at c.first_within.ensures.place in
    within_at I c.args.capacity offsets_in ss c.in-Some.place c.swap_remove.result c.in_ok-starts.ensures.value
    (position-Some _ ss c.in-Some.place c.swap_remove.result (sym place)).0
    c.swap_remove.ensures.value
    (rw (c.in-Some.is, c.deref.ensures.value) at
    (c.first_within.ensures.offsets I (rw c.deref.ensures.value c.in_ok-starts.ensures.sound)))

pub returns-in-None : goal.returns-in-None
returns-in-None c =
    let I = c.args.instance.now in let ss = c.in_ok-starts.starts.items in (
      none_within I c.args.capacity offsets_in ss c.in_ok-starts.ensures.value
          (rw (c.in-None.is, c.deref.ensures.value) at
          (c.first_within.ensures.offsets I (rw c.deref.ensures.value c.in_ok-starts.ensures.sound))),
      best_is I ss c.best_of.result c.in_ok-starts.ensures.value c.in_ok-starts.ensures.heights
          c.in_ok-starts.ensures.sound c.best_of.ensures,
    )
