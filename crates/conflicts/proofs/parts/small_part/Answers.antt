use Rattle.std.proofs.Common.{ℕ, List, subst}
use Rattle.dsa_terms.specs.Claims.{IsIn}
use Rattle.conflicts.proofs.parts.small_part.Goals as goal
use Rattle.conflicts.proofs.parts.small_part.Goals.{then-len-fewest, else-len-fewest}

pub loop-back-preserved : goal.loop-back-preserved
loop-back-preserved c = record {
  unmet = c.in_ok-walk.ensures.unmet;
  of_claim = elim c.if-len-fewest.branch [
    | then-len-fewest w ↦ rw (w.best-is, w.swap.ensures.x_after) c.in_ok-walk.ensures.of_claim
    | else-len-fewest w ↦ rw w.best-is c.loop-back.invariant.of_claim
  ];
}

pub mark-requires : goal.mark-requires
mark-requires c = λ b i.
    rw (c.fill.ensures.len, c.loop-back.invariant.unmet.count)
    (c.args.lows.now.in_range b (c.loop-back.invariant.of_claim b
    (subst (λ (bs : List ℕ). IsIn b bs) c.as_slice.ensures.value i)))
