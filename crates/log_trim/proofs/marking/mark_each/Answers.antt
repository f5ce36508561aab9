use Rattle.std.proofs.Common.{arith}
use Rattle.refute_log.specs.Lines.{cite_value}
use Rattle.refute_log.specs.declared.line.Cite.TheVariants.{Line}
use Rattle.log_trim.proofs.Marked.{marked_next, named_at}
use Rattle.log_trim.proofs.marking.mark_each.Goals as goal

pub mark-requires : goal.mark-requires
mark-requires c k i =
    let named = named_at cite_value c.args.cites.now c.loop-cite.cite-index (Line 0) k c.loop-cite-test.true i in
    let lt = c.requires k named in omega arith

pub loop-cite-preserved : goal.loop-cite-preserved
loop-cite-preserved c = marked_next cite_value c.args.cites.now c.loop-cite.cite-index (Line 0) c.args.marks.now
    c.loop-cite.marks c.mark.new.marks c.loop-cite-test.true c.loop-cite.invariant c.mark.ensures
