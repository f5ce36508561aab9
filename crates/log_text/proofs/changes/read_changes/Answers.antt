use Rattle.std.proofs.Common.{◌∙◌, sym}
use Rattle.log_text.proofs.ReadChanges.{change_more, no_change, no_space}
use Rattle.log_text.proofs.changes.read_changes.Goals as goal

pub returns-then-not-take : goal.returns-then-not-take
returns-then-not-take c = no_space _ _ _ _ c.requires.ends c.loop-cursor.invariant
    (λ r e. c.loop-cursor-test.ensures.1 r e) (λ r e. c.if-not-take.ensures.1 r (c.loop-cursor-test.ensures.0 ∙ e))

pub returns-in_default : goal.returns-in_default
returns-in_default c = no_change _ _ _ _ _ c.requires.ends c.loop-cursor.invariant
    (λ r e. c.loop-cursor-test.ensures.1 r e) (sym c.loop-cursor-test.ensures.0 ∙ c.if-not-take.ensures)
    c.in_default.ensures.none

pub loop-cursor-preserved : goal.loop-cursor-preserved
loop-cursor-preserved c = change_more _ c.loop-cursor.changes.items _ _ _ _ _ c.loop-cursor.invariant
    (sym c.loop-cursor-test.ensures.0 ∙ c.if-not-take.ensures) c.in-Some.ensures.some c.in_ok-push.ensures.items
