use Rattle.claim_levels.proofs.spreading.raise.Given as goal

abbrev pub ghost-level_of : goal.ghost-level_of
ghost-level_of g a = g.levels
