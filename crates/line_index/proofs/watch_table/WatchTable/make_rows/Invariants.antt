use Rattle.std.proofs.Common.{◌≡◌, ℕ, ◌≤◌, length}
use Rattle.line_index.specs.Rows.{AreFiled}
use Rattle.line_index.specs.Watches.{row_at}
use Rattle.line_index.proofs.watch_table.WatchTable.make_rows.Given as goal

abbrev pub invariant-loop : goal.invariant-loop
invariant-loop l = record {
  filed : AreFiled l.self-inside.watches.items l.self-inside.rows.items l.self-inside.scale;
  same : (p : ℕ) → row_at l.self-inside.rows.items p ≡ row_at l.fn.self.rows p;
  watches : l.self-inside.watches.items ≡ l.fn.self.watches;
  scale : l.self-inside.scale ≡ l.fn.self.scale;
  count : l.counter ≤ length l.self-inside.rows.items;
}
