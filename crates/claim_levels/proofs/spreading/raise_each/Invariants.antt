use Rattle.std.proofs.Common.{ℕ, drop}
use Rattle.claim_levels.specs.Raisings.{IsRaised, IsRaising}
use Rattle.claim_levels.proofs.RaisingSteps.{AreRaisedBut}
use Rattle.claim_levels.proofs.spreading.raise_each.Given as goal

abbrev pub ghost-raise : goal.ghost-raise
ghost-raise g a = g.levels

abbrev pub invariant-loop-i : goal.invariant-loop-i
invariant-loop-i g l = record {
  raising : IsRaising l.instance g.levels l.placed.buffer l.raising;
  done : AreRaisedBut l.instance g.levels l.placed.buffer l.raising l.buffers (drop l.i l.buffers);
  kept : (d : ℕ) → IsRaised l.instance g.levels l.placed.buffer l.fn.raising.numbers.items d →
      IsRaised l.instance g.levels l.placed.buffer l.raising.numbers.items d;
}
