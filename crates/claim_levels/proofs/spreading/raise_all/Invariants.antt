use Rattle.claim_levels.proofs.spreading.raise_all.Given as goal

abbrev pub ghost-raise_near : goal.ghost-raise_near
ghost-raise_near g a = g.levels

abbrev pub ghost-raise_each : goal.ghost-raise_each
ghost-raise_each g a = g.levels
