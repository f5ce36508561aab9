use Rattle.std.proofs.Common.{ap, refl}
use Rattle.log_text.specs.Rows.{spelled_value}
use Rattle.log_text.proofs.LimitLemmas.{cases_rise}
use Rattle.log_text.proofs.limits.is_line_rising.Goals as goal

pub returns-else-not-is_claim_rising : goal.returns-else-not-is_claim_rising
returns-else-not-is_claim_rising c = cases_rise _ _ _ _ _ _ (ap spelled_value c.in-Cases.is) refl
    (c.if-not-is_claim_rising.ensures.0 refl) c.as_slice.ensures.value c.cites_rise.ensures
