use Rattle.std.proofs.Common.{◌≡◌, ◌∙◌, None, Some, subst, true, rules}
use Rattle.std.specs.Result.{is_ok}
use Rattle.dsa_terms.specs.Buffers.{Buffer, buffer}
use Rattle.dsa_model.specs.Buffer.{buffer_fault}
use Rattle.csv_instance.specs.Rows.{values_of}
use Rattle.csv_instance.proofs.FailLemmas.{UnlessNoMemory-map}
use Rattle.cyclic_plan.proofs.Wraps.{same_pair, stays_of, wraps_of}
use Rattle.cyclic_plan.proofs.unrolling.unrolled_buffer.Goals as goal

pub returns-then-lower-upper : goal.returns-then-lower-upper
returns-then-lower-upper c =
    let b = buffer (values_of c.args.rows.now) c.args.row in
    let same = stays_of c.args.period c.lower-lower.result c.upper-upper.result c.size-size.result
    c.alignment-alignment.result c.gaps.result.now c.lowest-lowest.result b c.lower-lower.ensures.value
    c.upper-upper.ensures.value
    c.size-size.ensures.value c.alignment-alignment.ensures.value c.gaps.ensures.value
    c.lowest-lowest.ensures.value c.if-lower-upper.true in
    UnlessNoMemory-map c.new.result
    (λ made h. subst (λ (x : Buffer). buffer_fault x ≡ None) same h.1.no_fault)
    (λ f h. subst (λ (x : Buffer). buffer_fault x ≡ Some f) same h) c.new.ensures.value

pub returns-in_ok-push : goal.returns-in_ok-push
returns-in_ok-push c =
    let b = buffer (values_of c.args.rows.now) c.args.row in
    let pushed : is_ok c.push.result ≡ true = search rules in
    let copied = c.in_ok-gaps.ensures.items_if_clones_equal same_pair ∙ c.gaps-else-lower-upper.ensures.value in
    let items = rw pushed at c.push.ensures.items in
    let same = wraps_of c.args.period c.lower-lower.result c.upper-upper.result c.size-size.result
    c.alignment-alignment.result c.in_ok-gaps.gaps.items c.lowest-lowest.result b c.lower-lower.ensures.value
    c.upper-upper.ensures.value
    c.size-size.ensures.value c.alignment-alignment.ensures.value copied
    c.lowest-lowest.ensures.value c.if-lower-upper.false in
    let told = rw (c.deref.ensures.value, items) at c.new-else-lower-upper.ensures.value in
    UnlessNoMemory-map c.new-else-lower-upper.result
    (λ made h. subst (λ (x : Buffer). buffer_fault x ≡ None) same h.1.no_fault)
    (λ f h. subst (λ (x : Buffer). buffer_fault x ≡ Some f) same h) told
