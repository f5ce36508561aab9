use Rattle.std.proofs.Common.{◌≡◌, ◌∙◌, ◌+◌, ℕ, Bool, true, false, ap, drop, map, not, rules, slice_index, subst, sym}
use Rattle.branching.proofs.Words.{entry_of, not_excluded}
use Rattle.branching.proofs.LeftEntries.{left_next, left_past, left_some}
use Rattle.branching.proofs.Order.{AreKeysBut, keys_all, keys_skip, keys_take, sorted_keys}
use Rattle.branching.proofs.choice.choices.Goals.{else-is_none, then-is_none+in_ok-push}
use Rattle.branching.proofs.choice.choices.Goals as goal

pub own_cite-requires-clause-b_in : goal.own_cite-requires-clause-b_in
own_cite-requires-clause-b_in c = left_some _ _ c.left-b-items.ensures c.loop-b.b-index c.loop-b-test.true

pub low_of-requires : goal.low_of-requires
low_of-requires c = left_some _ _ c.left-b-items.ensures c.loop-b.b-index c.loop-b-test.true

pub loop-b-preserved : goal.loop-b-preserved
loop-b-preserved c = λ l h.
    let I = c.args.task.now.instance.now in
    let left = c.left-b-items.result.now in
    let i = c.loop-b.b-index in
    let e = entry_of l (slice_index left i) in
    let s = left_next I l _ left h c.left-b-items.ensures i c.loop-b-test.true in
    let none = c.own_cite.ensures.none l h (c.least_end-least.ensures l h) in
    let takes : (t : Bool) → c.is_none.result ≡ t → not_excluded I l e ≡ not (not t) =
    λ t q. none ∙ ap not (c.is_none.ensures ∙ ap not q) in
    elim c.if-is_none.branch [
      | then-is_none+in_ok-push w ↦ subst (AreKeysBut I l (drop (i + 1) l)) (ap (λ v. v.items) (sym w.keys-is))
          (keys_take I l (drop i l) (drop (i + 1) l) e _ s (c.loop-b.invariant l h) _ _ (takes true w.if-is_none.true)
          (ap (λ (low : ℕ). let k : ℕ × ℕ = (low, e.0) in k) (w.low_of.ensures.value I l h)) w.in_ok-push.ensures.items)
      | else-is_none w ↦ subst (AreKeysBut I l (drop (i + 1) l)) (ap (λ v. v.items) (sym w.keys-is))
          (keys_skip I l (drop i l) (drop (i + 1) l) e _ s (c.loop-b.invariant l h) (takes false w.if-is_none.false))
    ]

pub returns : goal.returns
returns c = λ l h.
    let items : c.in_ok-collect.field-0.items ≡ map (λ (k : ℕ × ℕ). k.1) c.deref.result.now = search rules in
    let I = c.args.task.now.instance.now in
    let i = c.loop-b.b-index in
    let law = c.choices_are_in_order.ensures in
    let past = left_past I l _ c.left-b-items.result.now h c.left-b-items.ensures i c.loop-b-test.false in
    let all = keys_all I l (drop i l) _ past (c.loop-b.invariant l h) in
    ap (map (entry_of l)) (items ∙ ap (map (λ (k : ℕ × ℕ). k.1)) c.deref.ensures.value)
    ∙ sorted_keys I l _ _ h.claim all c.sort_unstable.ensures.permutation c.sort_unstable.ensures.sorted
    (law.order I (not_excluded I) l h.claim) (law.members I (not_excluded I) l) (law.one I)
