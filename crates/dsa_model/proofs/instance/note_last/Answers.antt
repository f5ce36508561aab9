use Rattle.std.proofs.Common.{refl, sym, ◌∙◌}
use Rattle.dsa_model.proofs.Noting.{kept_in_turn, noted_in_turn}
use Rattle.dsa_model.proofs.instance.note_last.Goals.{then-get, else-get}
use Rattle.dsa_model.proofs.instance.note_last.Goals as goal

pub loop-place-preserved : goal.loop-place-preserved
loop-place-preserved c = elim c.if-get.branch [
  | then-get w ↦ rw w.rows-is (noted_in_turn _ _ _ _ _ _ _ _ c.loop-place.invariant c.loop-place-test.true
      (sym w.if-get.true ∙ c.get.ensures) refl w.add.ensures.same w.add.ensures.value)
  | else-get w ↦ rw w.rows-is (kept_in_turn _ _ _ _ _ c.loop-place.invariant c.loop-place-test.true
      (sym c.get.ensures ∙ w.if-get.false))
]
