use Rattle.std.proofs.Common.{rules, ◌≡◌, ◌∙◌, None, sym}
use Rattle.log_text.proofs.ReadLemmas.{more_too_large, tens_too_large, with_more}
use Rattle.log_text.proofs.split.with_digit.Goals as goal

pub returns-in_err-value : goal.returns-in_err-value
returns-in_err-value c n e =
    let r : c.from_residual.result ≡ None = search rules in
    r ∙ more_too_large n _ (sym c.in_err-value.was ∙ e)

pub returns-in_err-checked_mul : goal.returns-in_err-checked_mul
returns-in_err-checked_mul c n e =
    let r : c.from_residual-in_err-checked_mul.result ≡ None = search rules in
    r ∙ tens_too_large n _ _ (sym c.in_ok-value.was ∙ e) c.in_err-checked_mul.ensures

pub returns : goal.returns
returns c n e =
    with_more n _ _ _ _ (sym c.in_ok-value.was ∙ e) c.in_ok-checked_mul.ensures.1 c.checked_add.ensures
