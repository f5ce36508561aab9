use Rattle.std.proofs.Common.{ℕ, ◌⊎◌, drop}
use Rattle.claim_levels.proofs.Words.{IsIn, members_of}
use Rattle.claim_levels.specs.Raisings.{IsRaised, IsRaising}
use Rattle.claim_levels.proofs.spreading.raise_near.Given as goal

abbrev pub ghost-raise_each : goal.ghost-raise_each
ghost-raise_each g a = g.levels

abbrev pub invariant-loop-i : goal.invariant-loop-i
invariant-loop-i g l = record {
  raising : IsRaising l.instance g.levels l.placed.buffer l.raising;
  done : (s : ℕ) → IsIn s l.own → IsIn s (drop l.i l.own) ⊎ ((c : ℕ) → IsIn c (members_of l.sections s) →
      IsRaised l.instance g.levels l.placed.buffer l.raising.numbers.items c);
}
