use Rattle.refute_log.specs.Lines.{cite_value}
use Rattle.refute_log.specs.declared.line.Cite.TheVariants.{Line}
use Rattle.log_trim.proofs.Marked.{named_at}
use Rattle.log_trim.proofs.moving.moved_cites.Goals as goal

pub moved_cite-requires : goal.moved_cite-requires
moved_cite-requires c k i =
    c.requires k (named_at cite_value c.args.cites.now c.loop-cite.cite-index (Line 0) k c.loop-cite-test.true i)
