use Rattle.std.proofs.Common.{rules, ◌∙◌, ℕ, arith, ap, subst, true}
use Rattle.dsa_terms.proofs.Places.{handed}
use Rattle.lifetime.specs.Switching.{IsSwitched}
use Rattle.claim_levels.specs.declared.trail.Step.{Step}
use Rattle.claim_levels.specs.Trails.{undone}
use Rattle.claim_levels.proofs.Trailing.{changes_within, last_is, trail_above}
use Rattle.claim_levels.proofs.trail.Trail.ascend.Goals as goal

pub put_back-requires : goal.put_back-requires
put_back-requires c = λ e i.
    let k = changes_within _ _ _ _ c.pop.new.self.items c.in-Some-pop.step
    (rw c.in-Some-pop.is at c.pop.ensures.items) c.self.invariant e
    (rw c.deref-in-Some-pop.ensures.value at i) in
    let n = c.deref_mut.ensures.len in
    omega (arith, k, n)

pub invariant_of-self-in-Some-pop : goal.invariant_of-self-in-Some-pop
invariant_of-self-in-Some-pop c = trail_above _ _ _ _ c.pop.new.self.items c.in-Some-pop.step
    (rw c.in-Some-pop.is at c.pop.ensures.items) c.self.invariant _ _
    (handed c.put_back.new.levels _ c.self.inside.raising.numbers.len (search rules) ∙ c.put_back.ensures
    ∙ ap (undone c.deref-in-Some-pop.result.now) c.deref_mut.ensures.value
    ∙ ap (λ cs. undone cs c.self.inside.raising.numbers.items) c.deref-in-Some-pop.ensures.value)
    (subst (λ (b : ℕ). IsSwitched c.self.inside.left.items b true c.put_in.new.left.items)
    (ap (λ (s : Step). s.buffer) (last_is c.self.inside.steps.items c.pop.new.self.items c.in-Some-pop.step
    c.in-Some.step.now (rw c.in-Some-pop.is at c.pop.ensures.items)
    (rw (c.in-Some.is, c.deref.ensures.value) at c.last.ensures.value))) c.in_ok-put_in-in-Some.ensures.switched)
