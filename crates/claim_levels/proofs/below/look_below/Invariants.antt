use Rattle.claim_levels.proofs.below.look_below.Given as goal

abbrev pub ghost-raise_all : goal.ghost-raise_all
ghost-raise_all g a = g.levels
