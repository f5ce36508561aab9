use Rattle.std.proofs.Common.{arith}
use Rattle.search_tests.proofs.conflicts_tests.over.Goals as goal

pub returns : goal.returns
returns c = (rw c.in_ok-claim.ensures c.requires.bounds, omega arith, c.requires.height, c.requires.modulus)
