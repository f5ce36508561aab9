use Rattle.std.proofs.Common.{◌^◌, ◌∙◌, sym, subst}
use Rattle.dsa_terms.specs.Claims.{buffers_of}
use Rattle.canonical_order.specs.Claims.{IsBoundedBy}
use Rattle.refute_log.proofs.Legal.{all_within}
use Rattle.log_check.proofs.narrowing.line_of.Goals as goal
use Rattle.dsa_terms.proofs.Lists.{into_map}
use Rattle.log_check.proofs.Narrowed.{bounded}

pub claim_of-requires-clause-in_range : goal.claim_of-requires-clause-in_range
claim_of-requires-clause-in_range c e i =
    all_within c.len-count.result (buffers_of c.pairs_of-pairs.result.now)
    (sym c.in_default.is ∙ c.out_of_range.ensures) e.0
    (into_map (λ e. e.0) c.pairs_of-pairs.result.now e i)

pub claim_of-requires-clause-bounds : goal.claim_of-requires-clause-bounds
claim_of-requires-clause-bounds c =
    subst (IsBoundedBy (2 ^ 60)) (sym c.pairs_of-pairs.ensures) (bounded c.args.line.now c.requires.kept.within)
