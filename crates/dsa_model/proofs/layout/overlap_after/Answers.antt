use Rattle.std.proofs.Common.{◌<◌, ◌∙◌, length, refl, sym, arith}
use Rattle.dsa_model.specs.LayoutFaults.{overlap_after}
use Rattle.dsa_model.proofs.Ranges.{some_here, some_later}
use Rattle.dsa_model.proofs.layout.overlap_after.Goals as goal

pub loop-second-init : goal.loop-second-init
unfolding overlap_after
loop-second-init c = refl

pub returns-in-Some : goal.returns-in-Some
returns-in-Some c =
    let lt : c.loop-second.second < length c.args.instance.now = omega arith in
    sym (c.loop-second.invariant ∙ some_here _ c.loop-second.second _ _ lt (sym c.in-Some.ensures))

pub loop-second-preserved : goal.loop-second-preserved
loop-second-preserved c =
    let lt : c.loop-second.second < length c.args.instance.now = omega arith in
    c.loop-second.invariant ∙ some_later _ c.loop-second.second _ lt (sym c.in_default.ensures)
