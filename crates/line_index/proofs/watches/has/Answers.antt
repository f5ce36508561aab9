use Rattle.line_index.proofs.Looking.{has_pair}
use Rattle.line_index.proofs.watches.has.Goals as goal

pub returns : goal.returns
returns c = has_pair c.args.pair c.args.claim.now c.contains.result
    (rw c.pairs.ensures.value at c.contains.ensures.value)
