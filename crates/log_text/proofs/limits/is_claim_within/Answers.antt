use Rattle.std.proofs.Common.{◌∙◌, List, ap, map, sym}
use Rattle.log_text.specs.Edits.{change_value}
use Rattle.log_text.specs.Rows.{spelling_value}
use Rattle.log_text.specs.Spellings.{From}
use Rattle.log_text.specs.declared.changes.Edit.{Edit}
use Rattle.log_text.proofs.LimitLemmas.{difference_within}
use Rattle.log_text.proofs.limits.is_claim_within.Goals as goal

pub returns-else-base-gt-NUMBER_LIMIT : goal.returns-else-base-gt-NUMBER_LIMIT
returns-else-base-gt-NUMBER_LIMIT c = difference_within _ _ c.in-From.base _
    (ap spelling_value c.in-From.is ∙ ap (λ (xs : List Edit). From c.in-From.base (map change_value xs))
    (sym c.as_slice-in-From.ensures.value)) c.if-base-gt-NUMBER_LIMIT.false c.changes_within.ensures
