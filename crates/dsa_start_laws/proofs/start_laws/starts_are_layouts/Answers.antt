use Rattle.dsa_start_laws.proofs.Fits.{first_fit_is_layout, best_fit_is_layout, start_is_layout}
use Rattle.dsa_start_laws.proofs.start_laws.starts_are_layouts.Goals as goal

pub returns-clause-first_fit : goal.returns-clause-first_fit
returns-clause-first_fit c = first_fit_is_layout

pub returns-clause-best_fit : goal.returns-clause-best_fit
returns-clause-best_fit c = best_fit_is_layout

pub returns-clause-each : goal.returns-clause-each
returns-clause-each c = start_is_layout
