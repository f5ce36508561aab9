use Rattle.lower_bounds.specs.Best.{IsRaised}
use Rattle.lower_bounds.proofs.highest.highest.Given as goal

abbrev pub invariant-loop-s : goal.invariant-loop-s
invariant-loop-s l = IsRaised l.instance l.sections l.modulus l.s l.fn.bound l.best
