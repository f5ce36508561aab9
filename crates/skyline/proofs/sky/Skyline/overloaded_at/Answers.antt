use Rattle.std.proofs.Common.{ap, sym, ◌∙◌, arith}
use Rattle.skyline.proofs.Bounds.{belongs_of_view}
use Rattle.skyline.proofs.Overloads.{overloaded_found, overloaded_none}
use Rattle.lifetime.specs.SectionList.{count_of}
use Rattle.skyline.specs.Skies.{Sky}
use Rattle.skyline.proofs.sky.Skyline.overloaded_at.Goals as goal

pub returns-then-is_some-clause-value : goal.returns-then-is_some-clause-value
returns-then-is_some-clause-value c =
    let n = ap (λ (k : Sky). count_of k.sections) c.self.view_is in
    overloaded_found _ _ _ c.args.capacity c.loop-s.s c.over_at-found.result (sym c.is_some.ensures
    ∙ c.if-is_some.true) c.over_at-found.ensures.value
    (omega (arith, n, c.count-s-end.ensures.value)) c.loop-s.invariant

pub returns-clause-value : goal.returns-clause-value
returns-clause-value c =
    let n = ap (λ (k : Sky). count_of k.sections) c.self.view_is in
    overloaded_none _ _ _ c.args.capacity c.loop-s.s (omega (arith, n, c.count-s-end.ensures.value)) c.loop-s.invariant

pub returns-then-is_some-clause-belongs : goal.returns-then-is_some-clause-belongs
returns-then-is_some-clause-belongs c = belongs_of_view _ _ _ _ _ _ _ _ _ _ c.self.view_is c.self.invariant.sky

pub returns-clause-belongs : goal.returns-clause-belongs
returns-clause-belongs c = belongs_of_view _ _ _ _ _ _ _ _ _ _ c.self.view_is c.self.invariant.sky
