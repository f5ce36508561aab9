use Rattle.std.proofs.Common.{◌<◌, ◌∙◌, length, refl, sym, arith}
use Rattle.dsa_model.specs.LayoutFaults.{first_overlap}
use Rattle.dsa_model.proofs.Ranges.{some_later, rest_of_all}
use Rattle.dsa_model.proofs.layout.first_overlap.Goals as goal

pub loop-first-init : goal.loop-first-init
unfolding first_overlap
loop-first-init c = rw (rest_of_all (length c.args.instance.now)) refl

pub loop-first-preserved : goal.loop-first-preserved
loop-first-preserved c =
    let lt : c.loop-first.first < length c.args.instance.now = omega arith in
    c.loop-first.invariant ∙ some_later _ c.loop-first.first _ lt (sym c.in_default.ensures)
