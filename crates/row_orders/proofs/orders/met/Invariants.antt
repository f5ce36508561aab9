use Rattle.dsa_terms.specs.Buffers.{buffer}
use Rattle.row_orders.proofs.Meeting.{IsSummed}
use Rattle.row_orders.proofs.orders.met.Given as goal

abbrev pub invariant-loop-c : goal.invariant-loop-c
invariant-loop-c l = IsSummed l.instance (buffer l.instance l.b) l.sum l.c
