use Rattle.std.proofs.Common.{◌≡◌, drop, length}
use Rattle.claim_levels.specs.Trails.{undone}
use Rattle.claim_levels.proofs.raising.put_back.Given as goal

abbrev pub invariant-loop-b : goal.invariant-loop-b
invariant-loop-b l = record {
  undone : undone (drop l.b-index l.changes) l.levels ≡ undone l.changes l.initial.levels;
  count : length l.levels ≡ length l.initial.levels;
}
