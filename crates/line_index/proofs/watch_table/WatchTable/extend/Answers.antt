use Rattle.std.proofs.Common.{◌≡◌, ◌∙◌, List, Some, ap, arith, length, length-append, refl, slice_get, subst, sym}
use Rattle.std.proofs.lemmas.Option.{slice_get_within}
use Rattle.dsa_terms.specs.Claims.{Entry}
use Rattle.refute_log.proofs.Legal.{get_before}
use Rattle.line_index.proofs.WatchRows.{filed_more}
use Rattle.line_index.proofs.watch_table.WatchTable.extend.Goals as goal

pub loop-preserved : goal.loop-preserved
loop-preserved c =
    let i = c.loop.invariant in
    let old = c.loop.self-inside.watches.items in
    let q = c.in_ok-push.ensures.items in
    record {
      filed = filed_more old c.push.new.self.items _ _ _ q refl i.filed;
      same = λ k e at. subst (λ (xs : List Entry). slice_get xs k ≡ Some e) (sym q)
          (get_before old _ k (slice_get_within old k e (i.same k e at)) ∙ i.same k e at);
      rows = i.rows;
      count = (let n = ap length q in let m = length-append old in let k = i.count in omega arith);
    }
