use Rattle.first_fit.proofs.Starting.{found_within}
use Rattle.first_fit.proofs.start_list.first_within.Goals as goal

pub returns-clause-offsets : goal.returns-clause-offsets
returns-clause-offsets c = λ I h. found_within I _ _ _ c.place_within.ensures h
