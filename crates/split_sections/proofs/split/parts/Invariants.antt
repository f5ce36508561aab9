use Rattle.std.proofs.Common.{◌-◌, length, map}
use Rattle.dsa_model.specs.Lists.{items_of}
use Rattle.split_sections.proofs.Grouping.{ArePartsBelow}
use Rattle.split_sections.proofs.split.parts.Given as goal

abbrev pub decreases-loop-first : goal.decreases-loop-first
decreases-loop-first l = length l.order.items - l.first

abbrev pub invariant-loop-first : goal.invariant-loop-first
invariant-loop-first l = ArePartsBelow l.instance l.order.items l.first (map items_of l.parts.items)
