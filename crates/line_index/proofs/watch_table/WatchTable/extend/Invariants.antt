use Rattle.std.proofs.Common.{◌≡◌, ℕ, ◌≤◌, Some, length, slice_get}
use Rattle.dsa_terms.specs.Claims.{Entry}
use Rattle.line_index.specs.Rows.{AreFiled}
use Rattle.line_index.proofs.watch_table.WatchTable.extend.Given as goal

abbrev pub invariant-loop : goal.invariant-loop
invariant-loop l = record {
  filed : AreFiled l.self-inside.watches.items l.self-inside.rows.items l.self-inside.scale;
  same : (k : ℕ) (e : Entry) → slice_get l.fn.self.watches k ≡ Some e →
      slice_get l.self-inside.watches.items k ≡ Some e;
  rows : l.self-inside.rows.items ≡ l.fn.self.rows;
  count : l.counter ≤ length l.self-inside.watches.items;
}
