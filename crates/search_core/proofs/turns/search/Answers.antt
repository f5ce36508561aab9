use Rattle.std.proofs.Common.{◌∙◌, None, inl, inr, refl, arith}
use Rattle.dsa_model.proofs.Results.{passed_on}
use Rattle.branching.proofs.Growing.{extends_along, extends_none}
use Rattle.search_core.specs.Walks.{due_lines}
use Rattle.search_core.proofs.Counting.{more_by_after, more_by_along, more_by_nothing, more_still}
use Rattle.search_core.proofs.Starting.{started}
use Rattle.search_core.proofs.turns.search.Goals as goal

pub turns-init : goal.turns-init
turns-init c =
    let s = started c.args.task.now.instance.now c.args.task.now.capacity c.args.sections.now c.args.members.now
    c.args.log.now.lines (record {
      path = c.new-2.result;
      trail = c.in_ok-trail.trail;
      line = None;
      watches = c.new-watches.result;
    }) c.requires.empty (rw c.in_ok-sky.ensures at c.new-2.ensures) refl c.new-watches.ensures
    (rw c.in_ok-sky.ensures at c.in_ok-trail.ensures.last) c.in_ok-trail.ensures.above in
    record {
      log = c.requires.log;
      grown = rw c.requires.empty (extends_none _ _);
      place = s.place;
      root = s.root;
      watched = s.watched;
      held = s.held;
      most = refl;
      taken = inl refl;
      units = omega arith;
      left = omega (arith, s.owed);
      counted = more_by_nothing c.args.meter.now (due_lines c.args.log.now.lines c.new-2.result)
          (rw (c.requires.empty, c.new-2.ensures) refl);
    }

pub turns-preserved : goal.turns-preserved
turns-preserved c =
    let i = c.turns.invariant in
    let on = rw c.in-On.is at c.in_ok-step.ensures.turned in
    record {
      log = c.in_ok-step.ensures.log;
      grown = extends_along _ _ _ _ _ (λ b h. h) i.grown (rw i.root at c.in_ok-step.ensures.grown);
      place = on.place;
      root = on.root ∙ i.root;
      watched = rw c.in-On.is at c.in_ok-step.ensures.watched;
      held = rw c.in-On.is at c.in_ok-step.ensures.held;
      most = c.step.ensures.most ∙ i.most;
      taken = elim i.taken [
        | inl none ↦ inr (more_by_after c.args.meter.now c.turns.meter c.step.new.meter 1 i.most i.units
            (c.in_ok-step.ensures.taken none))
        | inr more ↦ inr (more_still c.args.meter.now c.turns.meter c.step.new.meter more c.step.ensures.units)
      ];
      units = let u = c.step.ensures.units in let v = i.units in omega arith;
      left = let u = on.units in let v = i.left in omega arith;
      counted = more_by_along c.args.meter.now c.turns.meter c.step.new.meter
          (due_lines c.turns.log.lines c.turns.walk.path) (due_lines c.step.new.log.lines c.step.new.self.path) i.most
          i.counted c.in_ok-step.ensures.counted;
    }

pub returns-in_err-step-clause-found : goal.returns-in_err-step-clause-found
returns-in_err-step-clause-found c =
    let left = c.turns.invariant.left in
    passed_on _ _ _ _ _ c.from_residual-in_err-step.ensures.1 c.in_err-step.ensures.turned
    (λ f h. (h.0, omega (arith, left, h.1)))

pub returns-in-Done-clause-grown : goal.returns-in-Done-clause-grown
returns-in-Done-clause-grown c =
    let i = c.turns.invariant in
    extends_along _ _ _ _ _ (λ b h. h) i.grown (rw i.root at c.in_ok-step.ensures.grown)
