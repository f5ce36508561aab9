use Rattle.branching.proofs.CasesLines.{cases_legal, cites_within}
use Rattle.branching.proofs.Descent.{covers_itself, is_instance}
use Rattle.branching.proofs.cases.refute.Goals as goal

pub append-requires-clause-legal : goal.append-requires-clause-legal
append-requires-clause-legal c =
    cases_legal _ _ c.args.refuted.now _ c.in_ok-cites.ensures c.args.task.now.capacity c.args.log.now.lines
    c.requires.stands c.requires.not_empty c.requires.covered

pub append-requires-clause-within : goal.append-requires-clause-within
append-requires-clause-within c = (
  c.requires.low,
  cites_within _ _ c.args.refuted.now _ c.in_ok-cites.ensures c.args.log.now.lines c.requires.stands c.requires.covered,
)

pub returns-clause-grown : goal.returns-clause-grown
returns-clause-grown c =
    c.append.ensures.grown c.args.claim (covers_itself _ c.args.claim (is_instance _ _ c.requires.stands))

pub returns-clause-covered : goal.returns-clause-covered
returns-clause-covered c =
    c.append.ensures.covered c.args.claim (covers_itself _ c.args.claim (is_instance _ _ c.requires.stands))
