use Rattle.std.proofs.Common.{◌≡◌, drop, map, max}
use Rattle.dsa_terms.specs.Buffers.{buffer}
use Rattle.dsa_terms.specs.Logs.{greatest}
use Rattle.size_classes.proofs.sizes.widest.Given as goal

-- the widest so far, or what is left is wider
abbrev pub invariant-loop-b : goal.invariant-loop-b
invariant-loop-b l =
    greatest (map (λ b. (buffer l.instance b).size) l.members)
    ≡ max l.widest (greatest (map (λ b. (buffer l.instance b).size) (drop l.b-index l.members)))
