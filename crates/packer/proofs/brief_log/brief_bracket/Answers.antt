use Rattle.std.proofs.Common.{◌-◌}
use Rattle.dsa_model.proofs.Instances.{sound_instance}
use Rattle.packer.proofs.Brief.{brief_between, some_log}
use Rattle.packer.proofs.brief_log.brief_bracket.Goals.{in-Some+in_ok-brief-in-Some, in-None}
use Rattle.packer.proofs.brief_log.brief_bracket.Goals as goal

pub returns-clause-between : goal.returns-clause-between
returns-clause-between c steps h =
    let I = c.args.instance.now in
    elim c.match-log.branch [
      | in-Some+in_ok-brief-in-Some w ↦ brief_between I steps c.args.bracket w.in-Some.log
          w.in_ok-brief-in-Some.field-0 c.match-log.log (sound_instance I c.len-count.ensures.buffers) h w.in-Some.is
          w.log-is w.in_ok-brief-in-Some.ensures.accepted w.in_ok-brief-in-Some.ensures.capacity
          w.in_ok-brief-in-Some.ensures.trimmed w.in_ok-brief-in-Some.ensures.fewer
          (w.in_ok-brief-in-Some.ensures.bound (c.args.bracket.low - 1))
      | in-None w ↦ absurd (some_log I steps c.args.bracket h w.in-None.is)
    ]
