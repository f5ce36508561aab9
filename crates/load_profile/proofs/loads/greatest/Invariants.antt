use Rattle.load_profile.specs.LoadProfile.{IsGreatestOf}
use Rattle.load_profile.proofs.loads.greatest.Given as goal

abbrev pub invariant-loop-s : goal.invariant-loop-s
invariant-loop-s l = IsGreatestOf l.sections l.loads l.s l.peak
