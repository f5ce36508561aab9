use Rattle.std.proofs.Common.{ℕ, ◌<◌, ◌≤◌, length}
use Rattle.line_index.specs.Watches.{AreNoted}
use Rattle.line_index.specs.Watching.{AreOwnMoved, IsWatched}
use Rattle.line_index.proofs.watches.Watches.ask.Given as goal

abbrev pub invariant-loop-k : goal.invariant-loop-k
invariant-loop-k l = record {
  moved : AreOwnMoved l.log.lines l.levels l.fn.self.entries l.self-inside.table.watches;
  count : length l.log.lines ≤ length l.self-inside.table.watches;
  watched : (j : ℕ) → l.k ≤ j → j < length l.log.lines →
      IsWatched l.log.lines l.self-inside.table.watches l.levels j;
  noted : AreNoted l.log.lines l.fn.self.rows → AreNoted l.log.lines l.self-inside.table.rows;
}
