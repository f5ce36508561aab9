use Rattle.dsa_search_laws.proofs.PartLists.{part_rises}
use Rattle.search_core.proofs.Parting.{part_in_range, refutes_part, whole_end}
use Rattle.search_core.proofs.part.search_part.Goals as goal

pub search-requires-clause-rises : goal.search-requires-clause-rises
search-requires-clause-rises c = part_rises c.args.task.now.instance.now c.args.members.now c.requires.part

pub search-requires-clause-in_range : goal.search-requires-clause-in_range
search-requires-clause-in_range c = part_in_range c.args.task.now.instance.now _ c.requires.part

pub unreachable-requires : goal.unreachable-requires
unreachable-requires c =
    let I = c.args.task.now.instance.now in
    let p = c.args.members.now in
    let found = rw c.in-Line.is at c.in_ok-seats.ensures.found in
    let end = whole_end I _ p _ found.1 in
    c.in-Err.ensures.whole end.0 (rw c.into_log.ensures end.1) end.2

pub returns-in-Ok-clause-found : goal.returns-in-Ok-clause-found
returns-in-Ok-clause-found c =
    let found = rw c.in-Line.is at c.in_ok-seats.ensures.found in (
      found.0,
      refutes_part _ _ _ _ _ c.in-Line.end
          c.requires.part c.in_ok-seats.ensures.log c.in_ok-seats.ensures.grown
          (rw c.into_log.ensures at c.in-Ok.ensures.closed) c.in-Ok.ensures.accepted,
    )
