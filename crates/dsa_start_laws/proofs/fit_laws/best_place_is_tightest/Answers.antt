use Rattle.dsa_start_laws.proofs.Places.{best_is_clear}
use Rattle.dsa_start_laws.proofs.Ranges.{free_ranges_exactly}
use Rattle.dsa_start_laws.proofs.Tightest.{tightest_is_in, none_tighter, some_tightest}
use Rattle.dsa_start_laws.proofs.fit_laws.best_place_is_tightest.Goals as goal

pub returns-clause-clear : goal.returns-clause-clear
returns-clause-clear c = λ I b placed s. best_is_clear I s b placed

pub returns-clause-ranges : goal.returns-clause-ranges
returns-clause-ranges c = free_ranges_exactly

pub returns-clause-among : goal.returns-clause-among
returns-clause-among c = tightest_is_in

pub returns-clause-none : goal.returns-clause-none
returns-clause-none c = some_tightest

pub returns-clause-tightest : goal.returns-clause-tightest
returns-clause-tightest c = none_tighter
