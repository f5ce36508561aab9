use Rattle.std.proofs.Common.{◌<◌, ◌≤◌, length, false, ◌∙◌, arith}
use Rattle.std.proofs.lemmas.List.{get_or_default}
use Rattle.skyline.proofs.Lefts.{free_of_view, out_of_range}
use Rattle.skyline.proofs.Bounds.{stands_of_view}
use Rattle.skyline.proofs.sky.Skyline.has.Goals as goal

pub returns-then-b-len-clause-value : goal.returns-then-b-len-clause-value
returns-then-b-len-clause-value c =
    let le : length c.self.inside.free.items ≤ c.args.b = let r = c.if-b-len.true in
    omega (arith, r, c.len.ensures, c.self.inside.free.ok.0) in (
      (λ h. absurd cc),
      (λ i. absurd (out_of_range _ _ _ _ _ _ _ _ _ _ c.args.b c.self.view_is c.self.invariant.sky le
          i)),
    )

pub returns-clause-value : goal.returns-clause-value
returns-clause-value c =
    let n = c.self.invariant.sky.carries.free_count in
    let lt : c.args.b < length c.self.inside.free.items = let r = c.if-b-len.false in
    omega (arith, r, c.len.ensures, c.self.inside.free.ok.0) in
    free_of_view _ _ _ _ _ _ _ _ _ _ c.args.b _ c.self.view_is c.self.invariant.sky (omega (arith, lt, n))
    (c.index.ensures ∙ get_or_default c.self.inside.free.items c.args.b c.index.result.now false lt)

pub returns-then-b-len-clause-stands : goal.returns-then-b-len-clause-stands
returns-then-b-len-clause-stands c = stands_of_view _ _ _ _ _ _ _ _ _ _ c.self.view_is c.self.invariant.sky

pub returns-clause-stands : goal.returns-clause-stands
returns-clause-stands c = stands_of_view _ _ _ _ _ _ _ _ _ _ c.self.view_is c.self.invariant.sky
