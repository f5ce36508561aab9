use Rattle.std.proofs.Common.{[], ◌∷◌, ◌++◌, length}
use Rattle.dsa_model.specs.Rows.{IsNoted, instance_of}
use Rattle.dsa_model.proofs.instance.shares_with.Given as goal

abbrev pub invariant-loop-place : goal.invariant-loop-place
invariant-loop-place l =
    IsNoted (instance_of l.rows ++ l.buffer ∷ []) (length l.rows) l.shares.words.items l.place
