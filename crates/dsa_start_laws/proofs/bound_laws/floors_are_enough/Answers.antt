use Rattle.dsa_start_laws.proofs.Bounds.{floor_reaches}
use Rattle.dsa_start_laws.proofs.bound_laws.floors_are_enough.Goals as goal

pub returns : goal.returns
returns c = floor_reaches
