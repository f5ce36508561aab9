use Rattle.std.proofs.Common.{rules, refl}
use Rattle.dsa_model.proofs.Instances.{sound_instance}
use Rattle.lower_bounds.proofs.Raising.{is_read, raised_more, raised_same}
use Rattle.lower_bounds.proofs.highest.highest.Goals.{then-tally-best, else-tally-best}
use Rattle.lower_bounds.proofs.highest.highest.Goals as goal

pub loop-s-preserved : goal.loop-s-preserved
loop-s-preserved c =
    let x = is_read _ _ c.args.modulus c.loop-s.s _ _ _ (sound_instance _ c.requires.buffers) c.requires.order
    c.requires.tallies (search rules) refl in
    elim c.if-tally-best.branch [
      | then-tally-best w ↦ rw w.best-is (raised_more _ _ _ _ w.start.result _ _ _ c.loop-s.invariant x
          w.if-tally-best.true w.start.ensures.value)
      | else-tally-best w ↦ rw w.best-is (raised_same _ _ _ _ _ _ _ c.loop-s.invariant x w.if-tally-best.false)
    ]
