use Rattle.dsa_model.proofs.Instances.{sound_instance}
use Rattle.core_find.proofs.looking.refutes.Goals as goal

pub returns : goal.returns
returns c =
    λ log accepted. c.accepted_log_refutes.ensures c.args.instance.now log
    (sound_instance c.args.instance.now c.len-count.ensures.buffers) accepted
