use Rattle.dsa_start_laws.proofs.BoundModuli.{bound_modulus_among, bound_modulus_reaches, bound_modulus_least}
use Rattle.dsa_start_laws.proofs.bound_laws.bound_modulus_is_least.Goals as goal

pub returns-clause-among : goal.returns-clause-among
returns-clause-among c = bound_modulus_among

pub returns-clause-reaches : goal.returns-clause-reaches
returns-clause-reaches c = bound_modulus_reaches

pub returns-clause-least : goal.returns-clause-least
returns-clause-least c = bound_modulus_least
