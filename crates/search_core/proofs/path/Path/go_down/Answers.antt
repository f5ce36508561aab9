use Rattle.std.proofs.Common.{◌∙◌}
use Rattle.search_core.proofs.Keeping.{down}
use Rattle.search_core.proofs.path.Path.go_down.Goals as goal

pub returns-clause-frames : goal.returns-clause-frames
returns-clause-frames c =
    down c.args.self.now c.self.inside.sky c.push-2.new.self c.self.inside.kept.items c.push.new.self.items c.args.kept
    (c.self.view_is ∙ c.forget.ensures) c.self.invariant c.push-2.ensures.instance c.push-2.ensures.claims
    c.in_ok-push.ensures.items
