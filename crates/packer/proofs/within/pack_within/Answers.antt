use Rattle.std.proofs.Common.{arith}
use Rattle.dsa_model.proofs.Instances.{sound_instance}
use Rattle.packer.proofs.Opening.{decided_at_once, open_at}
use Rattle.packer.proofs.Reaching.{reached}
use Rattle.packer.proofs.within.pack_within.Goals as goal

pub returns-in_default-clause-value : goal.returns-in_default-clause-value
returns-in_default-clause-value g c =
    decided_at_once c.args.instance.now c.args.capacity c.args.steps c.in_ok-decided.decided
    (sound_instance c.args.instance.now c.len-count.ensures.buffers) c.in_ok-decided.ensures.value
    c.in_ok-decided.ensures.bound c.in_ok-decided.ensures.steps c.in_default.not-Open

pub improved-requires : goal.improved-requires
improved-requires g c =
    open_at c.args.instance.now c.args.capacity c.in-Open.bracket c.len-count.ensures.buffers
    c.len-count.ensures.limit (rw c.in-Open.is at c.in_ok-decided.ensures.value)

pub returns-clause-value : goal.returns-clause-value
returns-clause-value g c =
    let h = c.in_ok-bracket.ensures in
    c.concluded.ensures.value c.args.steps (reached c.args.instance.now c.args.steps c.in_ok-start.left _ _
    c.in_ok-start.start c.in_ok-bracket.bracket c.in_ok-start.ensures.bracket h.narrowed h.used
    (let e = c.in_ok-start.ensures.steps in omega arith) h.log)
