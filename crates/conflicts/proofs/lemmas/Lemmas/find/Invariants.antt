use Rattle.conflicts.proofs.Looking.{NoneCoversBelow}
use Rattle.conflicts.proofs.lemmas.Lemmas.find.Given as goal

abbrev pub invariant-loop-k : goal.invariant-loop-k
invariant-loop-k g l = NoneCoversBelow (g.L.Lows.subject l.lows) l.self.lines (g.L.Lows.claim l.lows) l.k
