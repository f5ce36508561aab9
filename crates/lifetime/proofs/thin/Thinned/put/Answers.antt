use Rattle.std.proofs.Common.{rules, refl, sym, List, ℕ}
use Rattle.lifetime.specs.Thin.{AreAmong}
use Rattle.lifetime.specs.SectionList.{section_with}
use Rattle.lifetime.proofs.Thinning.{fewer_is, more_is, no, put_last, put_left, put_rise, putting_more, putting_none, told, yes}
use Rattle.lifetime.proofs.thin.Thinned.put.Goals as goal

pub returns-then-last_has : goal.returns-then-last_has
returns-then-last_has c = put_left _ _ (section_with c.args.start c.args.members.now) (sym c.self.view_is)
    (yes c.last_has.result (told c.self.inside.kept.items c.deref.result.now _ c.args.members.now AreAmong
    c.last_has.result c.last_has.ensures c.deref.ensures.value refl) c.if-last_has.true)

pub loop-self-init : goal.loop-self-init
loop-self-init c = putting_none _ _ (section_with c.args.start c.args.members.now) (sym c.self.view_is)
    c.self.invariant
    (no c.last_has.result (told c.self.inside.kept.items c.deref.result.now _ c.args.members.now AreAmong
    c.last_has.result c.last_has.ensures c.deref.ensures.value refl) c.if-last_has.false)

pub last_is_within-requires-clause-sections : goal.last_is_within-requires-clause-sections
last_is_within-requires-clause-sections c = rw c.deref-in-loop-self.ensures.value c.loop-self.invariant.rise

pub loop-self-preserved-in-loop-self : goal.loop-self-preserved-in-loop-self
loop-self-preserved-in-loop-self c = putting_more _ _ _ _ c.loop-self.invariant
    (yes c.last_is_within.result (told c.loop-self.self-inside.kept.items c.deref-in-loop-self.result.now _
    c.args.members.now (λ (given last : List ℕ). AreAmong last given) c.last_is_within.result
    c.last_is_within.ensures c.deref-in-loop-self.ensures.value refl) c.loop-self-test.true)
    (fewer_is _ _ _ c.pop.ensures.rest (search rules))

pub loop-self-preserved : goal.loop-self-preserved
loop-self-preserved c = putting_more _ _ _ _ c.loop-self.invariant
    (yes c.last_is_within.result (told c.loop-self.self-inside.kept.items c.deref-in-loop-self.result.now _
    c.args.members.now (λ (given last : List ℕ). AreAmong last given) c.last_is_within.result
    c.last_is_within.ensures c.deref-in-loop-self.ensures.value refl) c.loop-self-test.true)
    (fewer_is _ _ _ c.pop.ensures.rest (search rules))

pub invariant_of-self : goal.invariant_of-self
invariant_of-self c = c.loop-self.invariant.rise

pub invariant_of-self-in_err-push : goal.invariant_of-self-in_err-push
invariant_of-self-in_err-push c = rw c.in_err-push.ensures.items c.loop-self.invariant.rise

pub invariant_of-self-2 : goal.invariant_of-self-2
invariant_of-self-2 c = put_rise _ (section_with c.args.start c.args.members.now) _ _ c.loop-self.invariant c.requires
    (more_is _ _ _ _ c.in_ok-push.ensures.items c.in_ok-members.ensures.items)

pub returns : goal.returns
returns c = put_last _ (section_with c.args.start c.args.members.now) _ _ c.loop-self.invariant
    (no c.last_is_within.result (told c.loop-self.self-inside.kept.items c.deref-in-loop-self.result.now _
    c.args.members.now (λ (given last : List ℕ). AreAmong last given) c.last_is_within.result
    c.last_is_within.ensures c.deref-in-loop-self.ensures.value refl) c.loop-self-test.false)
    (more_is _ _ _ _ c.in_ok-push.ensures.items c.in_ok-members.ensures.items)
