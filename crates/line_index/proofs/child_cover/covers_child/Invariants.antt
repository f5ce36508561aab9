use Rattle.dsa_terms.specs.Claims.{Claim, child}
use Rattle.canonical_order.specs.Claims.{CoversFirst, entry_of}
use Rattle.canonical_order.specs.Levels.{AreLevels}
use Rattle.line_index.proofs.child_cover.covers_child.Given as goal

abbrev pub invariant-loop-pair : goal.invariant-loop-pair
invariant-loop-pair l = (p : Claim) → AreLevels l.instance p l.levels →
    CoversFirst l.instance l.k (child l.instance p (entry_of p l.b)) l.pair-index
