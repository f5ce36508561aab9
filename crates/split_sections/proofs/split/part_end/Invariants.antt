use Rattle.split_sections.proofs.Sweeping.{IsReaching}
use Rattle.split_sections.proofs.split.part_end.Given as goal

abbrev pub invariant-loop-i : goal.invariant-loop-i
invariant-loop-i l = IsReaching l.instance l.order l.first l.i l.reach
