use Rattle.std.proofs.Common.{drop}
use Rattle.line_index.specs.Watches.{AreNoted}
use Rattle.line_index.specs.Watching.{AreMoved}
use Rattle.line_index.proofs.Finding.{FailBut}
use Rattle.line_index.proofs.watches.Watches.find.Given as goal

abbrev pub invariant-loop-pair : goal.invariant-loop-pair
invariant-loop-pair l = record {
  moved : AreMoved l.log.lines l.now l.fn.self.entries l.self-inside.table.watches;
  noted : AreNoted l.log.lines l.fn.self.rows → AreNoted l.log.lines l.self-inside.table.rows;
  fail : AreNoted l.log.lines l.fn.self.rows →
      FailBut l.log.lines l.now l.self-inside.table.watches l.raised (drop l.pair-index l.raised);
}
