use Rattle.std.proofs.Common.{◌≡◌, ℕ, ◌<◌, false}
use Rattle.branching.proofs.Words.{buffer}
use Rattle.prune_rules.specs.Twins.{are_alike}
use Rattle.branching.proofs.twin_marks.follows_its_like.Given as goal

abbrev pub invariant-loop-c : goal.invariant-loop-c
invariant-loop-c l = (d : ℕ) → d < l.c → are_alike (buffer l.instance d) (buffer l.instance l.b) ≡ false
