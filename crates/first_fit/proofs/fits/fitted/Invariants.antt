use Rattle.first_fit.specs.Rules.{rule_of}
use Rattle.first_fit.proofs.Fitting.{IsFitting}
use Rattle.first_fit.proofs.fits.fitted.Given as goal

abbrev pub invariant-loop-b : goal.invariant-loop-b
invariant-loop-b l = IsFitting l.instance (rule_of l.rule) l.order l.b-index l.seats.items l.offsets.items
