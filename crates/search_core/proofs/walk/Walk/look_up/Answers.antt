use Rattle.search_core.proofs.Words.{Stands}
use Rattle.search_core.specs.Descents.{claim_at}
use Rattle.search_core.specs.Walks.{place_of}
use Rattle.search_core.proofs.Watched.{levels_here, looked_up}
use Rattle.search_core.proofs.walk.Walk.look_up.Goals.{After-len-count}
use Rattle.search_core.proofs.walk.Walk.look_up.Goals as goal

stands : (c : After-len-count) → Stands c.args.task.now.instance.now (claim_at (place_of c.args.self.now))
stands c = rw (c.instance.ensures.value, c.requires.path.subject) at c.instance.ensures.stands

pub descend-requires-clause-low : goal.descend-requires-clause-low
descend-requires-clause-low c =
    let d = (goal.at.descend-requires-clause-low c).After-len-count in
    record {
      above = claim_at (place_of c.args.self.now);
      are = levels_here _ _ _ c.args.self.now c.requires.path c.requires.watched (stands d).claim;
      has = c.requires.has;
      low = rw (c.sky.ensures, c.requires.path.subject)
          at (c.sections.ensures.below c.args.b (rw c.sky.ensures c.requires.has));
    }

pub returns-clause-found : goal.returns-clause-found
returns-clause-found c =
    let s = stands (goal.at.returns-clause-found c).After-len-count in
    let here = levels_here _ _ _ c.args.self.now c.requires.path c.requires.watched s.claim in
    let e = c.descend.ensures in
    looked_up _ _ _ c.args.self.now c.requires.path c.requires.watched _ _ _ s c.requires.held c.descend.result
    (e.last _ here) e.above (rw c.log.ensures at e.covered _ here) e.stays (rw c.log.ensures at e.uncovered _ here)
    (rw c.log.ensures at e.watched) (rw c.log.ensures at e.kept) (rw c.log.ensures at e.noted)
