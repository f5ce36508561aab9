use Rattle.dsa_model.specs.Rows.{AreChosen}
use Rattle.dsa_model.proofs.instance.Instance.some_of.Given as goal

abbrev pub invariant-loop-n : goal.invariant-loop-n
invariant-loop-n l = AreChosen l.self l.members l.rows.items l.n
