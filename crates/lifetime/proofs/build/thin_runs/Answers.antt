use Rattle.lifetime.proofs.RunThinning.{thin_runs}
use Rattle.lifetime.proofs.build.thin_runs.Goals as goal

pub returns-clause-runs : goal.returns-clause-runs
returns-clause-runs c = thin_runs _ _ _ _ c.in_ok-thinned_runs.ensures.runs c.into_sections.ensures
