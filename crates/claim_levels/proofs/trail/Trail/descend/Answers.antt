use Rattle.std.proofs.Common.{◌≡◌, ◌∙◌, ◌∷◌, ◌++◌, [], List, ℕ, ap, refl, reverse, slice_index, subst, sym, arith}
use Rattle.claim_levels.proofs.Words.{AreLevels}
use Rattle.claim_levels.specs.Levels.{HasLowChild}
use Rattle.claim_levels.specs.Raisings.{IsRaised, IsRaising}
use Rattle.claim_levels.specs.Trails.{IsTrail, Tracks, all_before}
use Rattle.claim_levels.specs.declared.trail.Step.{Step}
use Rattle.claim_levels.proofs.ChildLevels.{child_levels}
use Rattle.line_index.specs.Watches.{AreRaised}
use Rattle.claim_levels.proofs.PlacedLevels.{has_placed}
use Rattle.claim_levels.proofs.Trailing.{above_below, before_is, trail_below}
use Rattle.claim_levels.proofs.trail.Trail.descend.Goals.{After-push_reserved, In_ok-reserve}
use Rattle.claim_levels.proofs.trail.Trail.descend.Goals as goal

last : (c : In_ok-reserve) → c.self.inside.raising.numbers.items ≡ c.args.self.now.last
last c = ap (λ (t : Tracks). t.last) c.self.view_is

low : (c : In_ok-reserve) → HasLowChild c.args.instance.now c.self.inside.raising.numbers.items c.args.b
low c = subst (λ (xs : List ℕ). HasLowChild c.args.instance.now xs c.args.b) (sym (last c)) c.requires.low

abbrev step_of : After-push_reserved → Step
step_of c = record {
  buffer = c.args.b;
  place = c.take_out-place.result;
  top = c.self.inside.raising.top;
  changes = c.replace-changes.result;
}

steps_are : (c : After-push_reserved) → c.push_reserved.new.self.items ≡ c.self.inside.steps.items ++ step_of c ∷ []
steps_are c = c.push_reserved.ensures.items
    ∙ ap (λ (ss : List Step). ss ++ step_of c ∷ []) c.in_ok-reserve.ensures.items

noted : (c : After-push_reserved) → (step_of c).changes.items ≡ c.raise_child.new.raising.changes.items
noted c = ap (λ v. v.items) c.replace-changes.ensures.value

raising : (c : After-push_reserved) →
    IsRaising c.args.instance.now c.self.inside.raising.numbers.items c.args.b c.raise_child.new.raising
raising c = rw c.in_default.is at c.in_ok-found.ensures.raising

done : (c : After-push_reserved) → (d : ℕ) →
    IsRaised c.args.instance.now c.self.inside.raising.numbers.items c.args.b c.raise_child.new.raising.numbers.items d
done c = rw c.in_default.is at c.in_ok-found.ensures.done

pub invariant_of-self-2 : goal.invariant_of-self-2
invariant_of-self-2 c =
    let r = c.raise_child.new.raising in
    let k = (goal.at.invariant_of-self-2 c).After-push_reserved in
    subst (λ (ss : List Step). IsTrail r.numbers.items c.take_out-place.new.left.items r.top ss) (sym (steps_are k))
    (trail_below c.args.instance.now c.self.inside.raising.numbers.items c.args.b c.self.inside.raising.top r
    (step_of k) refl refl (noted k) (raising k) c.self.inside.left.items c.self.invariant.led
    (low (goal.at.invariant_of-self-2 c).In_ok-reserve) (done k) c.take_out-place.new.left.items
    c.self.inside.steps.items c.take_out-place.ensures c.self.invariant.down)

pub returns-clause-last : goal.returns-clause-last
returns-clause-last c = λ l h.
    let k = (goal.at.returns-clause-last c).After-push_reserved in
    let r = raising k in
    let a = subst (AreLevels c.args.instance.now l)
    (sym (last (goal.at.returns-clause-last c).In_ok-reserve)) h in
    child_levels _ l _ c.args.b a c.raise_child.new.raising.numbers.items r.count r.outside
    (λ x more. done k x more l a)

pub returns-clause-above : goal.returns-clause-above
returns-clause-above c =
    let r = c.raise_child.new.raising in
    let k = (goal.at.returns-clause-above c).After-push_reserved in
    ap (λ (ss : List Step). all_before r.numbers.items (reverse ss)) (steps_are k)
    ∙ above_below r.numbers.items c.self.inside.raising.numbers.items c.self.inside.steps.items (step_of k)
    (before_is c.args.instance.now c.self.inside.raising.numbers.items c.args.b c.self.inside.raising.top r
    (step_of k) refl refl (noted k) (raising k))
    ∙ ap (λ (t : Tracks). t.last ∷ t.above) c.self.view_is

pub returns-in-Some-clause-kept : goal.returns-in-Some-clause-kept
returns-in-Some-clause-kept c = λ before n r watched.
    let k = (goal.at.returns-in-Some-clause-kept c).In_ok-reserve in
    c.in_ok-found.ensures.kept before n (subst (AreRaised before) (sym (last k)) r) watched

pub returns-clause-kept : goal.returns-clause-kept
returns-clause-kept c = λ before n r watched.
    let k = (goal.at.returns-clause-kept c).In_ok-reserve in
    c.in_ok-found.ensures.kept before n (subst (AreRaised before) (sym (last k)) r) watched

pub find-seen-requires-clause-b_in : goal.find-seen-requires-clause-b_in
find-seen-requires-clause-b_in c =
    let q = has_placed _ _ c.args.b c.requires.low in
    let e = ap (λ (t : Tracks). slice_index t.last c.args.b) c.self.view_is in
    let d = c.deref.ensures.value in
    rw c.deref.ensures.value (omega (arith, q, e))
