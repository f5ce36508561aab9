use Rattle.size_classes.proofs.RowLemmas.{AreSetUpTo}
use Rattle.size_classes.proofs.rows.fill_row.Given as goal

abbrev pub invariant-loop-m : goal.invariant-loop-m
invariant-loop-m l = AreSetUpTo l.instance l.class l.members.items l.m l.offsets
