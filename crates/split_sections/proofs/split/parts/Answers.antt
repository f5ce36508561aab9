use Rattle.std.proofs.Common.{◌≡◌, ◌∙◌, ℕ, ap, map, rules}
use Rattle.std.specs.List.{between}
use Rattle.dsa_model.specs.Lists.{items_of}
use Rattle.std.proofs.lemmas.List.{map_push}
use Rattle.split_sections.proofs.Grouping.{all_kept, all_parts, one_part_more}
use Rattle.split_sections.proofs.split.parts.Goals as goal

pub loop-first-preserved : goal.loop-first-preserved
loop-first-preserved c =
    let taken : c.in_ok-numbers_of.field-0.items
    ≡ map (λ (e : ℕ × ℕ). e.1) (between c.loop-first.first c.part_end-next.result c.in_ok-order.order.items) =
    rw c.deref-in-loop-first.ensures.value at c.in_ok-numbers_of.ensures in
    one_part_more c.args.instance.now c.in_ok-order.order.items c.loop-first.first c.part_end-next.result
    (map items_of c.loop-first.parts.items) (map items_of c.push.new.self.items) c.distinct.result.items
    c.in_ok-order.ensures.order c.in_ok-order.ensures.buffers c.loop-first.invariant
    (rw c.deref.ensures.value at c.part_end-next.ensures) c.distinct.ensures.rises
    (rw taken at c.distinct.ensures.same)
    (ap (map items_of) c.in_ok-push.ensures.items ∙ map_push items_of c.loop-first.parts.items c.distinct.result)

pub of_lists-requires : goal.of_lists-requires
of_lists-requires c = all_kept c.args.instance.now c.in_ok-order.order.items c.loop-first.first
    (map items_of c.loop-first.parts.items) c.in_ok-order.ensures.order c.loop-first.invariant (search rules)
    c.in_ok-order.ensures.limit

pub returns : goal.returns
returns c = record {
  value = c.of_lists.ensures ∙ all_parts c.args.instance.now c.in_ok-order.order.items c.loop-first.first
      (map items_of c.loop-first.parts.items) c.in_ok-order.ensures.order c.loop-first.invariant (search rules);
}
