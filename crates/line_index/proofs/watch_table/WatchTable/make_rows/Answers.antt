use Rattle.std.proofs.Common.{◌≡◌, ◌∙◌, ℕ, List, [], ◌∷◌, ◌++◌, ap, arith, length, length-append}
use Rattle.line_index.specs.declared.watch_row.Mark.{Mark}
use Rattle.line_index.specs.Watches.{row_at}
use Rattle.line_index.proofs.WatchRows.{filed_same, same_row}
use Rattle.line_index.proofs.watch_table.WatchTable.make_rows.Goals as goal

pub loop-preserved : goal.loop-preserved
loop-preserved c =
    let i = c.loop.invariant in
    let old = c.loop.self-inside.rows.items in
    let more : c.push.new.self.items ≡ old ++ [] ∷ [] =
    c.in_ok-push.ensures.items ∙ ap (λ (row : List Mark). old ++ row ∷ []) c.new.ensures in
    let same : (p : ℕ) → row_at c.push.new.self.items p ≡ row_at old p =
    λ p. ap (λ (rows : List (List Mark)). row_at rows p) more ∙ same_row old p in
    record {
      filed = filed_same _ old c.push.new.self.items _ same i.filed;
      same = λ p. same p ∙ i.same p;
      watches = i.watches;
      scale = i.scale;
      count = (let n = ap length more in let m = length-append old in let k = i.count in omega arith);
    }
