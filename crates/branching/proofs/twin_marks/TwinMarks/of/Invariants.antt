use Rattle.std.proofs.Common.{◌≡◌, length}
use Rattle.branching.specs.TwinMarks.{AreTwinMarks}
use Rattle.branching.proofs.twin_marks.TwinMarks.of.Given as goal

abbrev pub invariant-loop-b : goal.invariant-loop-b
invariant-loop-b l = (l.b ≡ length l.marks.items) × AreTwinMarks l.instance l.marks.items
