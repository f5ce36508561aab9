use Rattle.std.proofs.Common.{arith, subst}
use Rattle.std.proofs.lemmas.List.{nil_from_length}
use Rattle.search_core.specs.Ways.{IsBackBy, Way}
use Rattle.search_core.proofs.Keeping.{back, nothing_popped, way_of}
use Rattle.search_core.proofs.path.Path.go_back.Goals as goal

pub returns-in-Some-clause-some : goal.returns-in-Some-clause-some
returns-in-Some-clause-some c =
    let after = way_of c.pop-in-Some.new.self c.pop.new.self.items in
    subst (λ (w : Way). IsBackBy w after c.in-Some.kept) c.self.view_is
    (back c.self.inside.sky c.pop-in-Some.new.self _ c.pop.new.self.items c.in-Some.kept c.self.invariant
    c.pop-in-Some.ensures.instance c.pop-in-Some.ensures.claims c.in-Some.ensures.items)

pub returns-in-None-clause-none : goal.returns-in-None-clause-none
returns-in-None-clause-none c =
    let kept = c.self.inside.kept.items in
    nothing_popped c.args.self.now c.self.inside.sky kept c.pop.new.self.items c.self.view_is
    (nil_from_length kept (let k = c.in-None.ensures.cases in omega (arith, k.0, c.self.inside.kept.ok.0)))
    c.in-None.ensures.items
