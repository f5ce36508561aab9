use Rattle.std.proofs.Common.{arith}
use Rattle.first_fit.specs.Starts.{offsets_in}
use Rattle.planner.proofs.SixStarts.{are_six, best_is}
use Rattle.planner.proofs.starting.best_of_starts.Goals as goal

pub best_of-requires-clause-some : goal.best_of-requires-clause-some
best_of-requires-clause-some c =
    let n = are_six c.args.instance.now offsets_in c.in_ok-starts.starts.items c.in_ok-starts.ensures.value in
    omega arith

pub best_of-requires-clause-few : goal.best_of-requires-clause-few
best_of-requires-clause-few c =
    let n = are_six c.args.instance.now offsets_in c.in_ok-starts.starts.items c.in_ok-starts.ensures.value in
    omega arith

pub returns : goal.returns
returns c =
    best_is c.args.instance.now c.in_ok-starts.starts.items c.best_of.result c.in_ok-starts.ensures.value
    c.in_ok-starts.ensures.heights c.in_ok-starts.ensures.sound c.best_of.ensures
