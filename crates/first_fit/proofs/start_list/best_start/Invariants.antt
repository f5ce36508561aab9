use Rattle.std.proofs.Common.{map}
use Rattle.first_fit.specs.Starts.{height_in}
use Rattle.first_fit.proofs.Starting.{IsLowest}
use Rattle.first_fit.proofs.start_list.best_start.Given as goal

abbrev pub invariant-loop-s : goal.invariant-loop-s
invariant-loop-s l = IsLowest (map height_in l.starts) l.s l.best
