use Rattle.std.proofs.Common.{◌∙◌, sym, subst}
use Rattle.dsa_terms.specs.Claims.{Claim, Rises, buffers_of}
use Rattle.log_text.proofs.write_second.claim_difference.Goals as goal

pub difference-requires : goal.difference-requires
difference-requires c = subst (λ (l : Claim). Rises (buffers_of l))
    (sym (c.as_slice.ensures.value ∙ c.in_ok-old.ensures.value)) c.wide.ensures.rises
