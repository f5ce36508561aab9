use Rattle.lifetime.specs.Thin.{AreAmong}
use Rattle.lifetime.proofs.Thinning.{last_rises, tested}
use Rattle.lifetime.proofs.thin.last_has.Goals as goal

pub is_within-requires-clause-whole : goal.is_within-requires-clause-whole
is_within-requires-clause-whole c = last_rises c.args.sections.now c.in-Some.last.now c.deref.result.now
    c.requires.sections c.in-Some.ensures.value c.deref.ensures.value

pub returns-in-Some : goal.returns-in-Some
returns-in-Some c = tested c.args.sections.now c.in-Some.last.now c.deref.result.now
    (AreAmong c.args.members.now) c.is_within.result c.in-Some.ensures.value c.deref.ensures.value
    c.is_within.ensures
