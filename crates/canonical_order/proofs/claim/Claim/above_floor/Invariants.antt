use Rattle.std.proofs.Common.{◌≡◌, drop}
use Rattle.canonical_order.specs.Claims.{is_above_floor, least_buffer}
use Rattle.canonical_order.proofs.claim.Claim.above_floor.Given as goal

abbrev pub invariant-loop-pair : goal.invariant-loop-pair
invariant-loop-pair l = least_buffer (is_above_floor l.instance) l.self ≡ least_buffer (is_above_floor l.instance)
    (drop l.pair-index l.self)
