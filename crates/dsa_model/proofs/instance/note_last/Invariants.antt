use Rattle.dsa_model.specs.Rows.{AreNoted, instance_of}
use Rattle.dsa_model.proofs.instance.note_last.Given as goal

abbrev pub invariant-loop-place : goal.invariant-loop-place
invariant-loop-place l = AreNoted (instance_of l.fn.rows) l.rows l.last l.place
