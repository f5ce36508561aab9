use Rattle.claim_levels.proofs.below.raise_child.Given as goal

abbrev pub ghost-look_below : goal.ghost-look_below
ghost-look_below a = a.raising.now.numbers.items
