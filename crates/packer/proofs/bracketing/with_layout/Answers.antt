use Rattle.dsa_model.proofs.Instances.{sound_instance}
use Rattle.packer.proofs.Opening.{with_start}
use Rattle.packer.proofs.bracketing.with_layout.Goals as goal

pub returns-clause-bracket : goal.returns-clause-bracket
returns-clause-bracket c =
    with_start c.args.instance.now c.args.bracket c.args.start
    (sound_instance c.args.instance.now c.len-count.ensures.buffers) c.requires.bracket c.requires.start
    c.requires.to_best
