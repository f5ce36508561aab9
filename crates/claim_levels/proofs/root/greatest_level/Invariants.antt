use Rattle.std.proofs.Common.{◌≤◌, ◌^◌, All}
use Rattle.std.specs.List.{AllWithin}
use Rattle.claim_levels.proofs.root.greatest_level.Given as goal

abbrev pub invariant-loop-level : goal.invariant-loop-level
invariant-loop-level l = record {
  top : AllWithin (λ level. level ≤ l.top) l.levels 0 l.level-index;
  limit : All (λ level. level ≤ 2 ^ 55) l.levels → l.top ≤ 2 ^ 55;
}
