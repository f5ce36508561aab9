use Rattle.std.proofs.Common.{rules, ◌∙◌}
use Rattle.lower_bounds.proofs.AllTallies.{tallies_none}
use Rattle.lower_bounds.proofs.tallies.tally_all.Goals as goal

pub loop-place-init : goal.loop-place-init
loop-place-init c = tallies_none _ _ _ c.args.order.now _ (c.fill.ensures.len ∙ c.requires.count)
    (λ s lt. search rules)
