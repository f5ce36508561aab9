use Rattle.search_tests.proofs.replays.Replay.+search.Given as goal

abbrev pub decreases-search : goal.decreases-search
decreases-search l = l.depth
