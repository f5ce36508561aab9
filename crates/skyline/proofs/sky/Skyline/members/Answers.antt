use Rattle.std.proofs.Common.{◌<◌, ◌∙◌, ap, length, subst}
use Rattle.std.specs.List.{All}
use Rattle.dsa_terms.specs.Buffers.{Instance}
use Rattle.skyline.specs.Skies.{Sky}
use Rattle.skyline.proofs.Lefts.{members_of_view}
use Rattle.skyline.proofs.sky.Skyline.members.Goals as goal

pub returns-clause-value : goal.returns-clause-value
returns-clause-value c =
    c.deref.ensures.value
    ∙ members_of_view _ _ c.self.inside.members.items c.self.inside.depth c.self.inside.stack.items _ c.self.view_is

pub returns-clause-in_range : goal.returns-clause-in_range
returns-clause-in_range c =
    rw (c.deref.ensures.value)
    (subst (λ (I : Instance). All (λ b. b < length I) c.self.inside.members.items)
    (ap (λ (k : Sky). k.instance) c.self.view_is) c.self.invariant.sky.carries.in_range)
