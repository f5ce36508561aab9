use Rattle.std.proofs.Common.{◌≡◌, ◌∙◌, length, false, arith, refl, sym}
use Rattle.std.specs.List.{list_any}
use Rattle.branching.proofs.Words.{AreLevels, Claim, ends_below, is_twin, entry_of}
use Rattle.branching.specs.Endings.{IsLeastEnding}
use Rattle.branching.proofs.Ends.{least_is_below, none_is_below}
use Rattle.branching.proofs.Least.{least_passes, none_least, below_excludes, twin_excludes, no_rule_excludes}
use Rattle.branching.proofs.TwinMarking.{no_twin}
use Rattle.branching.proofs.choice.own_cite.Goals.{Else-least-low_of}
use Rattle.branching.proofs.choice.own_cite.Goals as goal

-- ---- below
pub returns-then-least-low_of-clause-legal : goal.returns-then-least-low_of-clause-legal
returns-then-least-low_of-clause-legal c = λ l h m.
    let v = c.low_of.ensures.value _ l h in
    let t = c.if-least-low_of.true in
    let k = c.low_of.ensures.limit in
    least_is_below _ l _ c.args.b m (λ k d i. (c.len-count.ensures.buffers k d i).sound) (omega arith) (omega arith)

pub returns-then-least-low_of-clause-none : goal.returns-then-least-low_of-clause-none
returns-then-least-low_of-clause-none c = λ l h m.
    let r = returns-then-least-low_of-clause-legal c l h m in
    below_excludes _ l (entry_of l c.args.b) _ r.1 r.3

-- ---- twin
none_below : (c : Else-least-low_of) (l : Claim) → let I = c.args.task.now.instance.now in
    AreLevels I l c.args.levels.now → IsLeastEnding I l (length I) c.args.least →
    list_any (λ f. ends_below I f (entry_of l c.args.b)) l ≡ false
none_below c l h m =
    let v = c.low_of.ensures.value _ l h in
    let t = c.if-least-low_of.false in
    none_is_below _ l _ c.args.b m h.claim (omega arith)

pub returns-in-Some-clause-legal : goal.returns-in-Some-clause-legal
returns-in-Some-clause-legal c = λ l h m.
    let I = c.args.task.now.instance.now in
    least_passes (λ f. is_twin I f (entry_of l c.args.b)) l c.in-Some.c (c.in-Some.ensures l h)

pub returns-in-Some-clause-none : goal.returns-in-Some-clause-none
returns-in-Some-clause-none c = λ l h m.
    let r = returns-in-Some-clause-legal c l h m in
    twin_excludes _ l (entry_of l c.args.b) _
    (none_below (goal.at.returns-in-Some-clause-none c).Else-least-low_of l h m) r.1 r.3

-- ---- none
pub returns-in-None-clause-none : goal.returns-in-None-clause-none
returns-in-None-clause-none c = λ l h m.
    let e = entry_of l c.args.b in
    no_rule_excludes _ l e (none_below (goal.at.returns-in-None-clause-none c).Else-least-low_of l h m)
    (none_least (λ f. is_twin c.args.task.now.instance.now f e) l (c.in-None.ensures l h))

pub returns-then-not-may_have-clause-none : goal.returns-then-not-may_have-clause-none
returns-then-not-may_have-clause-none c = λ l h m.
    let e = entry_of l c.args.b in
    no_rule_excludes _ l e (none_below (goal.at.returns-then-not-may_have-clause-none c).Else-least-low_of l h m)
    (no_twin _ l _ e refl (c.args.task.now.marked c.args.b (sym c.may_have.ensures ∙ c.if-not-may_have.true)))
