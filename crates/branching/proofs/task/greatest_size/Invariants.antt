use Rattle.std.proofs.Common.{◌^◌, ◌<◌, ◌≤◌, ℕ}
use Rattle.branching.proofs.Words.{buffer}
use Rattle.branching.proofs.task.greatest_size.Given as goal

abbrev pub invariant-loop-b : goal.invariant-loop-b
invariant-loop-b l = record {
  value : (c : ℕ) → c < l.b → (buffer l.instance c).size ≤ l.most;
  limit : l.most ≤ 2 ^ 40;
}
