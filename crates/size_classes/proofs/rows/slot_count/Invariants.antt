use Rattle.std.proofs.Common.{◌≡◌, ◌+◌, drop, map, max}
use Rattle.dsa_terms.specs.Logs.{greatest}
use Rattle.size_classes.proofs.rows.slot_count.Given as goal

-- the count so far, or what is left is more
abbrev pub invariant-loop-slot : goal.invariant-loop-slot
invariant-loop-slot l =
    greatest (map (λ s. s + 1) l.slots) ≡ max l.count (greatest (map (λ s. s + 1) (drop l.slot-index l.slots)))
