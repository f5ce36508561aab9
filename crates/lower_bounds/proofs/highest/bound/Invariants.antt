use Rattle.std.proofs.Common.{◌≡◌, length, take}
use Rattle.lifetime.specs.SectionList.{count_of}
use Rattle.lower_bounds.specs.Best.{IsBest}
use Rattle.lower_bounds.proofs.highest.bound.Given as goal

abbrev pub invariant-loop-modulus : goal.invariant-loop-modulus
invariant-loop-modulus l =
    IsBest l.instance l.sections (take l.modulus-index l.modulus-items) l.best
    × (length l.tallies.items ≡ count_of l.sections)
