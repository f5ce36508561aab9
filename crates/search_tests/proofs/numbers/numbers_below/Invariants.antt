use Rattle.std.proofs.Common.{◌<◌}
use Rattle.std.specs.List.{All}
use Rattle.dsa_terms.specs.Claims.{Rises}
use Rattle.search_tests.proofs.numbers.numbers_below.Given as goal

abbrev pub invariant-loop-b : goal.invariant-loop-b
invariant-loop-b l = record {
  rises : Rises l.numbers.items;
  below : All (λ b. b < l.b) l.numbers.items;
}
