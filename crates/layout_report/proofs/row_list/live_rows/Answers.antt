use Rattle.std.proofs.Common.{rules, ap, sym, ◌∙◌, arith}
use Rattle.std.proofs.lemmas.List.Sorted.{IsNonDecreasingBy-from_sort_by_key}
use Rattle.dsa_model.proofs.Instances.{sound_instance}
use Rattle.layout_report.specs.Rows.{AreLiveRows}
use Rattle.layout_report.specs.declared.row.Row.{Row}
use Rattle.layout_report.proofs.Living.{are_live, are_within, is_row, no_more, one_more}
use Rattle.layout_report.proofs.row_list.live_rows.Goals.{then-live_at+in_ok-push, else-live_at}
use Rattle.layout_report.proofs.row_list.live_rows.Goals as goal

pub loop-b-preserved : goal.loop-b-preserved
loop-b-preserved c = elim c.if-live_at.branch [
  | then-live_at+in_ok-push w ↦ one_more _ _ _ _ _ _ _ _ c.buffer-buffer.ensures.value
      (sym c.live_at.ensures ∙ w.if-live_at.true)
      (is_row _ _ _ _ _ c.buffer-buffer.ensures.value w.size.ensures.value) c.loop-b.invariant
      (ap (λ v. v.items) w.rows-is ∙ w.in_ok-push.ensures.items)
  | else-live_at w ↦ no_more _ _ _ _ _ _ c.buffer-buffer.ensures.value (sym c.live_at.ensures ∙ w.if-live_at.false)
      (ap (λ v. v.items) w.rows-is ∙ c.loop-b.invariant)
]

pub returns : goal.returns
returns c =
    let a : AreLiveRows c.args.instance.now c.args.offsets.now c.args.moment c.sort_unstable_by_key.new.self.items =
    are_live _ _ _ _ c.loop-b.b _ _ (sound_instance _ c.len-b-end.ensures.buffers) c.requires (omega arith)
    c.loop-b.invariant c.sort_unstable_by_key.ensures.permutation
    (IsNonDecreasingBy-from_sort_by_key (λ (row : Row). row.place) _ c.sort_unstable_by_key.ensures.sorted
    (λ a r q k. search rules)) in
    record { live = a; within = are_within _ _ _ _ a }
