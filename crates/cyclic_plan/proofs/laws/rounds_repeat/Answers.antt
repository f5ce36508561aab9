use Rattle.cyclic_plan.proofs.Rounds.{round_repeats}
use Rattle.cyclic_plan.proofs.laws.rounds_repeat.Goals as goal

pub returns : goal.returns
returns c = round_repeats
