use Rattle.skyline.proofs.Bounds.{belongs_of_view, children_of_view}
use Rattle.skyline.proofs.sky.Skyline.sections.Goals as goal

pub returns-clause-belongs : goal.returns-clause-belongs
returns-clause-belongs c = belongs_of_view _ _ _ _ _ _ _ _ _ _ c.self.view_is c.self.invariant.sky

pub returns-clause-below : goal.returns-clause-below
returns-clause-below c b has = children_of_view _ _ _ _ _ _ _ _ _ _ b c.self.view_is c.self.invariant.sky has
