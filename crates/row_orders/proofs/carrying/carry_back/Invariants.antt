use Rattle.row_orders.proofs.CarriedBack.{AreCarried}
use Rattle.row_orders.proofs.carrying.carry_back.Given as goal

abbrev pub invariant-loop-place : goal.invariant-loop-place
invariant-loop-place l = AreCarried l.order l.offsets l.back.items l.place
