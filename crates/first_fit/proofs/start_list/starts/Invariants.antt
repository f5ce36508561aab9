use Rattle.std.proofs.Common.{take}
use Rattle.first_fit.proofs.Starting.{AreMade}
use Rattle.first_fit.proofs.start_list.starts.Given as goal

abbrev pub invariant-loop-rule : goal.invariant-loop-rule
invariant-loop-rule l = AreMade l.instance (take l.rule-index l.rule-items) l.made.items
