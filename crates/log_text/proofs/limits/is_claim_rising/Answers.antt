use Rattle.std.proofs.Common.{◌∙◌, List, ap, map, sym}
use Rattle.log_text.specs.Edits.{change_value}
use Rattle.log_text.specs.Rows.{spelling_value}
use Rattle.log_text.specs.Spellings.{From}
use Rattle.log_text.specs.declared.changes.Edit.{Edit}
use Rattle.log_text.proofs.LimitLemmas.{difference_rises}
use Rattle.log_text.proofs.limits.is_claim_rising.Goals as goal

pub returns-in-From : goal.returns-in-From
returns-in-From c = difference_rises _ _ c.in-From.field-0 _
    (ap spelling_value c.in-From.is ∙ ap (λ (xs : List Edit). From c.in-From.field-0 (map change_value xs))
    (sym c.as_slice-in-From.ensures.value)) c.changes_rise.ensures
