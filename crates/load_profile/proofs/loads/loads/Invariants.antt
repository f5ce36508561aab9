use Rattle.std.proofs.Common.{◌≡◌, map, take}
use Rattle.lifetime.specs.SectionList.{Section}
use Rattle.load_profile.specs.LoadProfile.{load_of}
use Rattle.load_profile.proofs.loads.loads.Given as goal

abbrev pub invariant-loop-s : goal.invariant-loop-s
invariant-loop-s l = l.loads.items ≡ map (λ (x : Section). load_of l.instance x.members) (take l.s l.sections.sections)
