use Rattle.dsa_model.specs.Chosen.{some_of}
use Rattle.dsa_model.specs.Rows.{IsNoted}
use Rattle.dsa_model.proofs.instance.Instance.shares_among.Given as goal

abbrev pub invariant-loop-place : goal.invariant-loop-place
invariant-loop-place l = IsNoted (some_of l.self l.members) l.n l.shares.words.items l.place
