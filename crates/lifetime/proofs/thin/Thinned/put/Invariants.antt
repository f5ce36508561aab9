use Rattle.std.proofs.Common.{length, map}
use Rattle.lifetime.specs.SectionList.{section_with}
use Rattle.lifetime.specs.Views.{section_of}
use Rattle.lifetime.proofs.Thinning.{IsPutting}
use Rattle.lifetime.proofs.thin.Thinned.put.Given as goal

abbrev pub invariant-loop-self : goal.invariant-loop-self
invariant-loop-self l = IsPutting l.fn.self (section_with l.start l.members) (map section_of l.self-inside.kept.items)

abbrev pub decreases-loop-self : goal.decreases-loop-self
decreases-loop-self l = length l.self-inside.kept.items
