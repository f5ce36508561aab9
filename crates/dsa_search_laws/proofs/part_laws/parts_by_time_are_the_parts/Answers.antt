use Rattle.dsa_search_laws.proofs.ByTime.{by_time}
use Rattle.dsa_search_laws.proofs.Uncut.{starts_exactly, uncut_exactly}
use Rattle.dsa_search_laws.proofs.part_laws.parts_by_time_are_the_parts.Goals as goal

pub returns-clause-parts : goal.returns-clause-parts
returns-clause-parts c = by_time

pub returns-clause-starts : goal.returns-clause-starts
returns-clause-starts c = starts_exactly

pub returns-clause-uncut : goal.returns-clause-uncut
returns-clause-uncut c = uncut_exactly
