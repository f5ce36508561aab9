use Rattle.std.proofs.Common.{refl}
use Rattle.dsa_start_laws.proofs.Peaks.{has_peak, one_peak}
use Rattle.dsa_start_laws.proofs.capacity_laws.peak_is_one.Goals as goal

pub returns-clause-some : goal.returns-clause-some
returns-clause-some c = has_peak

pub returns-clause-one : goal.returns-clause-one
returns-clause-one c = one_peak

pub returns-clause-none : goal.returns-clause-none
returns-clause-none c = λ t p. p.not_empty refl
