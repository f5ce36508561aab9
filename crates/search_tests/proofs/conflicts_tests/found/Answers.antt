use Rattle.std.proofs.Common.{◌<◌, arith}
use Rattle.dsa_terms.specs.Claims.{buffers_of}
use Rattle.refute_log.proofs.Legal.{all_within}
use Rattle.search_tests.proofs.conflicts_tests.found.Goals as goal

pub invariant_of-find : goal.invariant_of-find
invariant_of-find c = record {
  in_range = λ b h. let k : b < c.len.result =
      all_within c.len.result (buffers_of c.args.claim.now) c.in-None.ensures b h in
      omega arith;
}
