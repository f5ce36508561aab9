use Rattle.dsa_model.proofs.Instances.{sound_instance}
use Rattle.refute_log.proofs.log.refutes.Goals as goal

pub returns : goal.returns
returns c log a = c.accepted_log_refutes.ensures _ log (sound_instance _ c.len-count.ensures.buffers) a
