use Rattle.std.proofs.Common.{ap, ◌∙◌, arith}
use Rattle.std.proofs.lemmas.List.{get_or_default}
use Rattle.skyline.proofs.Overloads.{load_of_view, over_from, over_full}
use Rattle.lifetime.specs.SectionList.{start_of}
use Rattle.skyline.specs.Skies.{Sky}
use Rattle.skyline.proofs.sky.Skyline.over.Goals as goal

pub least_low-requires-clause-load : goal.least_low-requires-clause-load
least_low-requires-clause-load c =
    let v = load_of_view _ _ _ _ _ _ _ _ _ _ _ c.args.s c.self.view_is c.self.invariant c.requires in
    let i = c.index.ensures ∙ get_or_default c.self.inside.loads.items c.args.s c.index.result.now 0 v.0 in
    let w = v.1.1 in
    omega (arith, i, w)

pub returns-in-None-clause-value : goal.returns-in-None-clause-value
returns-in-None-clause-value c =
    let v = load_of_view _ _ _ _ _ _ _ _ _ _ _ c.args.s c.self.view_is c.self.invariant c.requires in
    let i = c.index.ensures ∙ get_or_default c.self.inside.loads.items c.args.s c.index.result.now 0 v.0 in
    over_from _ _ _ c.args.capacity c.args.s c.index.result.now (i ∙ v.1.0) c.in-None.ensures.none

pub returns-in-Some-clause-value : goal.returns-in-Some-clause-value
returns-in-Some-clause-value c =
    let v = load_of_view _ _ _ _ _ _ _ _ _ _ _ c.args.s c.self.view_is c.self.invariant c.requires in
    let i = c.index.ensures ∙ get_or_default c.self.inside.loads.items c.args.s c.index.result.now 0 v.0 in
    over_full _ _ _ c.args.capacity c.args.s c.in-Some.height c.index.result.now c.start.result
    c.in-Some.ensures.some (i ∙ v.1.0) (c.start.ensures.value
    ∙ ap (λ (k : Sky). start_of k.sections c.args.s) c.self.view_is) c.in-Some.ensures.over
