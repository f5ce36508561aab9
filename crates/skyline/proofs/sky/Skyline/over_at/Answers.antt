use Rattle.std.proofs.Common.{◌≡◌, ◌∙◌, ap, arith, subst, sym}
use Rattle.std.proofs.lemmas.List.{get_or_default}
use Rattle.lifetime.specs.SectionList.{members_of, start_of}
use Rattle.skyline.specs.LowsOf.{least_low}
use Rattle.skyline.specs.Overloads.{FitsFrom, least_up}
use Rattle.skyline.specs.Skies.{Sky, last_claim}
use Rattle.skyline.proofs.LowsBy.{fits_from_top, least_low_is}
use Rattle.skyline.proofs.Overloads.{load_of_view, over_from, over_full}
use Rattle.skyline.proofs.sky.Skyline.over_at.Goals as goal

pub overflow_add-load : goal.overflow_add-load
overflow_add-load c =
    let v = load_of_view _ _ _ _ _ _ _ _ _ _ _ c.args.s c.self.view_is c.self.invariant c.requires.section in
    let i = c.index-load.ensures ∙ get_or_default c.self.inside.loads.items c.args.s c.index-load.result.now 0 v.0 in
    let w = v.1.1 in
    let t = c.requires.top_limit in
    omega (arith, i, w, t)

pub least_low-requires-clause-load : goal.least_low-requires-clause-load
least_low-requires-clause-load c =
    let v = load_of_view _ _ _ _ _ _ _ _ _ _ _ c.args.s c.self.view_is c.self.invariant c.requires.section in
    let i = c.index-load.ensures ∙ get_or_default c.self.inside.loads.items c.args.s c.index-load.result.now 0 v.0 in
    let w = v.1.1 in
    omega (arith, i, w)

pub returns-then-load-top-clause-value : goal.returns-then-load-top-clause-value
returns-then-load-top-clause-value c =
    let I = c.args.self.now.instance in
    let S = c.args.self.now.sections in
    let l = last_claim c.args.self.now.claims in
    let v = load_of_view _ _ _ _ _ _ _ _ _ _ _ c.args.s c.self.view_is c.self.invariant c.requires.section in
    let i = c.index-load.ensures ∙ get_or_default c.self.inside.loads.items c.args.s c.index-load.result.now 0 v.0 in
    over_from I S l c.args.capacity c.args.s c.index-load.result.now (i ∙ v.1.0)
    (subst (FitsFrom c.index-load.result.now c.args.capacity) (least_low_is I l c.args.levels.now c.requires.levels S
    c.args.s) (fits_from_top c.args.levels.now (members_of S c.args.s) c.args.top c.index-load.result.now
    c.args.capacity c.requires.top c.if-load-top.true))

pub returns-in_err-height-clause-value : goal.returns-in_err-height-clause-value
returns-in_err-height-clause-value c =
    let I = c.args.self.now.instance in
    let S = c.args.self.now.sections in
    let l = last_claim c.args.self.now.claims in
    let v = load_of_view _ _ _ _ _ _ _ _ _ _ _ c.args.s c.self.view_is c.self.invariant c.requires.section in
    let i = c.index-load.ensures ∙ get_or_default c.self.inside.loads.items c.args.s c.index-load.result.now 0 v.0 in
    let members : c.members.result.now ≡ members_of S c.args.s =
    c.members.ensures.value ∙ ap (λ (k : Sky). members_of k.sections c.args.s) c.self.view_is in
    let same : least_low c.args.levels.now c.members.result.now ≡ least_up I S l c.args.s =
    ap (least_low c.args.levels.now) members ∙ least_low_is I l c.args.levels.now c.requires.levels S c.args.s in
    c.from_residual.ensures ∙ over_from I S l c.args.capacity c.args.s c.index-load.result.now (i ∙ v.1.0)
    (subst (FitsFrom c.index-load.result.now c.args.capacity) same c.in_err-height.ensures.none)

pub returns-clause-value : goal.returns-clause-value
returns-clause-value c =
    let I = c.args.self.now.instance in
    let S = c.args.self.now.sections in
    let l = last_claim c.args.self.now.claims in
    let v = load_of_view _ _ _ _ _ _ _ _ _ _ _ c.args.s c.self.view_is c.self.invariant c.requires.section in
    let i = c.index-load.ensures ∙ get_or_default c.self.inside.loads.items c.args.s c.index-load.result.now 0 v.0 in
    let members : c.members.result.now ≡ members_of S c.args.s =
    c.members.ensures.value ∙ ap (λ (k : Sky). members_of k.sections c.args.s) c.self.view_is in
    let same : least_low c.args.levels.now c.members.result.now ≡ least_up I S l c.args.s =
    ap (least_low c.args.levels.now) members ∙ least_low_is I l c.args.levels.now c.requires.levels S c.args.s in
    over_full I S l c.args.capacity c.args.s c.in_ok-height.height c.index-load.result.now c.start-start.result
    (sym same ∙ c.in_ok-height.ensures.some) (i ∙ v.1.0) (c.start-start.ensures.value
    ∙ ap (λ (k : Sky). start_of k.sections c.args.s) c.self.view_is) c.in_ok-height.ensures.over
