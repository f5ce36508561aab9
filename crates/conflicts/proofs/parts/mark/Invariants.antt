use Rattle.std.proofs.Common.{◌≡◌, ◌⊎◌, drop, length}
use Rattle.dsa_terms.specs.Claims.{IsIn}
use Rattle.conflicts.specs.Walks.{IsMarked}
use Rattle.conflicts.proofs.Walking.{AreMarkedBut}
use Rattle.conflicts.proofs.parts.mark.Given as goal

abbrev pub invariant-loop-b : goal.invariant-loop-b
invariant-loop-b l = record {
  count : length l.marks ≡ length l.fn.marks;
  left : AreMarkedBut (λ b. IsMarked l.fn.marks b ⊎ IsIn b l.buffers) (drop l.b-index l.buffers) l.marks;
}
