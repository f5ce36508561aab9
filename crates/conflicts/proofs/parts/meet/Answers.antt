use Rattle.std.proofs.Common.{sym, ◌∙◌}
use Rattle.conflicts.proofs.Walking.{meets}
use Rattle.conflicts.proofs.parts.meet.Goals as goal

pub returns : goal.returns
returns c =
    rw c.in_ok-push.ensures.items
    (meets _ _ _ _ c.requires c.args.b (sym c.is_marked.ensures ∙ c.if-not-is_marked.false))
