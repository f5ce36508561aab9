use Rattle.std.proofs.Common.{arith}
use Rattle.search_core.proofs.Seating.{offsets_are}
use Rattle.search_core.proofs.whole.offsets.Goals as goal

pub returns : goal.returns
returns c =
    let i = c.loop-i.invariant in
    offsets_are c.args.instance.now c.args.seats.now c.loop-i.offsets.items c.loop-i.i
    (let t = c.loop-i-test.false in omega arith) i.count i.each
