use Rattle.std.proofs.Common.{map, drop}
use Rattle.branching.proofs.Words.{IsIn}
use Rattle.branching.specs.declared.notes.Refuted.{Refuted}
use Rattle.branching.proofs.cites.line_of.Given as goal

abbrev pub invariant-loop-r : goal.invariant-loop-r
invariant-loop-r l = IsIn l.b (map (λ (r : Refuted). r.buffer) l.refuted) →
    IsIn l.b (map (λ (r : Refuted). r.buffer) (drop l.r-index l.refuted))
