use Rattle.std.proofs.Common.{refl}
use Rattle.split_sections.proofs.Kept.{part_at, in_range_at, read_at}
use Rattle.split_sections.proofs.part_list.Parts.members.Goals as goal

pub returns-clause-part : goal.returns-clause-part
returns-clause-part c =
    rw (c.as_slice.ensures.value)
    (part_at c.args.self.now c.args.p c.index.result.now.items (rw (← c.self.view_is) c.self.invariant.each) c.requires
    (rw (← c.self.view_is) (read_at c.self.inside.parts.items c.args.p c.index.result.now c.index.result.now.items
    (rw c.self.view_is c.requires) c.index.ensures refl)))

pub returns-clause-in_range : goal.returns-clause-in_range
returns-clause-in_range c =
    rw (c.as_slice.ensures.value)
    (in_range_at c.args.self.now c.args.p c.index.result.now.items c.requires
    (rw (← c.self.view_is) (read_at c.self.inside.parts.items c.args.p c.index.result.now c.index.result.now.items
    (rw c.self.view_is c.requires) c.index.ensures refl)))
