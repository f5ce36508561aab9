use Rattle.std.proofs.Common.{ap, ◌∙◌}
use Rattle.dsa_terms.specs.Plans.{layout_height}
use Rattle.first_fit.proofs.Starting.{has_each_once, is_start, offsets_low}
use Rattle.first_fit.proofs.start_list.make_start.Goals as goal

pub fitted-requires : goal.fitted-requires
fitted-requires c = has_each_once _ c.args.order _ (c.deref.ensures.value ∙ c.in_ok-order.ensures)

pub height-requires-clause-limit : goal.height-requires-clause-limit
height-requires-clause-limit c = rw c.deref-2.ensures.value (offsets_low _ _ c.in_ok-offsets.ensures.layout
    c.in_ok-offsets.ensures.limit)

pub returns-clause-start : goal.returns-clause-start
returns-clause-start c = is_start _ _ (c.height.ensures
    ∙ ap (layout_height c.args.instance.now) c.deref-2.ensures.value)
    c.in_ok-offsets.ensures.layout c.in_ok-offsets.ensures.limit
