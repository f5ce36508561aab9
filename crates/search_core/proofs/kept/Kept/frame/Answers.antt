use Rattle.std.proofs.Common.{◌∙◌, IfSome, sym, subst}
use Rattle.search_core.proofs.Words.{Claim, AreLevels}
use Rattle.branching.specs.Tries.{IsOrderOf}
use Rattle.branching.proofs.AllBranches.{tries_are}
use Rattle.search_core.proofs.kept.Kept.frame.Goals.{in-Some, in-None+in_ok-order-in-None}
use Rattle.search_core.proofs.kept.Kept.frame.Goals as goal

-- the order that was kept or made again
is_order : (c : goal.After-of) (l : Claim) → AreLevels c.args.task.now.instance.now l c.args.levels.now →
    IfSome c.args.self.order (IsOrderOf c.args.task.now.instance.now l) →
    IsOrderOf c.args.task.now.instance.now l c.match-order.order
is_order c l levels order =
    let I = c.args.task.now.instance.now in
    elim c.match-order.branch [
      | in-Some w ↦ subst (IsOrderOf I l) (sym w.order-is) (rw w.in-Some.is at order)
      | in-None+in_ok-order-in-None w ↦
          subst (IsOrderOf I l) (sym w.order-is) (w.in_ok-order-in-None.ensures l levels)
    ]

pub returns : goal.returns
returns c l levels order =
    c.of.ensures ∙ tries_are c.args.task.now.instance.now l c.match-order.order c.args.self.notes
    (is_order c l levels order)
