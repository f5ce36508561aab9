use Rattle.std.proofs.Common.{◌-◌, ◌∙◌, sym, arith, rules}
use Rattle.dsa_terms.proofs.Places.{handed}
use Rattle.refute_log.specs.Lines.{line_value}
use Rattle.log_trim.proofs.Marked.{all_needed, below_length, only_end, with_cites, without_cites}
use Rattle.log_trim.proofs.marking.needed.Goals as goal

pub loop-k-init : goal.loop-k-init
loop-k-init c = only_end c.args.log.now c.len-k.result c.len.result c.end.result c.in_ok-marks.marks.items
    c.end.ensures.value c.end.ensures.in_log c.len.ensures.value (search rules) (search rules)

pub mark_cited-requires : goal.mark_cited-requires
mark_cited-requires c k i = rw c.deref_mut.ensures.value (below_length c.args.log.now k c.loop-k.k c.loop-k.marks.items
    c.loop-k.invariant (c.requires _ _ k c.line.ensures.value i))

pub loop-k-preserved-then-index : goal.loop-k-preserved-then-index
loop-k-preserved-then-index c =
    rw (handed c.mark_cited.new.marks _ c.loop-k.marks.len (search rules))
    (with_cites c.args.log.now (c.loop-k.k - 1) c.loop-k.k (line_value c.line.result.now) c.loop-k.marks.items
    c.mark_cited.new.marks c.index.result.now (omega arith) c.line.ensures.value c.loop-k.invariant
    (sym c.index.ensures ∙ c.if-index.true) (rw c.deref_mut.ensures.value at c.mark_cited.ensures))

pub loop-k-preserved : goal.loop-k-preserved
loop-k-preserved c =
    without_cites c.args.log.now (c.loop-k.k - 1) c.loop-k.k c.loop-k.marks.items c.index.result.now (omega arith)
    c.loop-k.invariant (sym c.index.ensures ∙ c.if-index.false)

pub returns : goal.returns
returns c = all_needed c.args.log.now c.loop-k.k c.loop-k.marks.items (omega arith) c.loop-k.invariant
