use Rattle.conflicts.proofs.OwnCites.{end_is}
use Rattle.branching.proofs.Words.{entry_of}
use Rattle.branching.proofs.ending.end_of.Goals as goal

pub returns-clause-value : goal.returns-clause-value
returns-clause-value c = λ l h.
    let I = c.args.instance.now in
    end_is I (entry_of l c.args.b) c.buffer.result.now _ c.size.result (c.low_of.ensures.value I l h)
    c.buffer.ensures.value c.size.ensures.value
