use Rattle.std.proofs.Common.{◌∙◌, sym}
use Rattle.log_text.proofs.RowLemmas.{passed_on, row_cases, row_end, row_no_over, row_over}
use Rattle.log_text.proofs.rows.read_row.Goals as goal

pub returns-in_err-read_over : goal.returns-in_err-read_over
returns-in_err-read_over c = passed_on _ _ _ _ _ c.from_residual.ensures.1 c.in_err-read_over.ensures
    (row_no_over _ _ _ c.if-take.ensures)

pub returns-then-take : goal.returns-then-take
returns-then-take c = row_over _ _ _ _ _ c.if-take.ensures c.in_ok-read_over.ensures

pub returns-then-take-2 : goal.returns-then-take-2
returns-then-take-2 c = row_cases _ _ _ _ _ (sym c.if-take.ensures.0 ∙ c.if-take-2.ensures) c.in_ok-read_cases.ensures

pub returns-in-Some : goal.returns-in-Some
returns-in-Some c = row_end _ _ _ _ _ _ (sym c.if-take.ensures.0 ∙ (sym c.if-take-2.ensures.0 ∙ c.if-take-3.ensures))
    c.in-Some.ensures.some c.cap.ensures
