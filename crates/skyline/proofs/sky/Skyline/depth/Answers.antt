use Rattle.std.proofs.Common.{arith}
use Rattle.skyline.proofs.Bounds.{low_of_view}
use Rattle.skyline.proofs.Lefts.{depth_of_view}
use Rattle.skyline.proofs.SectionFacts.{members_few}
use Rattle.skyline.proofs.sky.Skyline.depth.Goals as goal

pub overflow_cast-result : goal.overflow_cast-result
overflow_cast-result c =
    let sky = c.self.invariant.sky in
    let few = members_few _ _ sky.carries.in_range sky.carries.rise sky.carries.count in
    omega (arith, sky.depth, few)

pub returns-clause-value : goal.returns-clause-value
returns-clause-value c = depth_of_view _ _ _ _ _ _ _ _ _ _ c.self.view_is c.self.invariant.sky

pub returns-clause-low : goal.returns-clause-low
returns-clause-low c = low_of_view _ _ _ _ _ _ _ _ _ _ c.self.view_is c.self.invariant.sky
