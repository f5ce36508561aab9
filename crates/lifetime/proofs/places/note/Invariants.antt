use Rattle.lifetime.proofs.Noting.{IsNoting}
use Rattle.lifetime.proofs.places.note.Given as goal

abbrev pub invariant-loop-b : goal.invariant-loop-b
invariant-loop-b l = IsNoting l.members l.s l.b-index l.fn.lists l.lists
