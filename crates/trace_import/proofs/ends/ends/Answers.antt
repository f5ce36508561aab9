use Rattle.std.proofs.Common.{◌≡◌, ◌∙◌, ap, arith, length, map, refl, sym, unwrap_or}
use Rattle.std.proofs.lemmas.List.{length-map}
use Rattle.trace_import.specs.Kept.{line_value}
use Rattle.trace_import.specs.Traces.{is_alloc}
use Rattle.trace_import.proofs.EndLemmas.{ends_all, ends_none, is_freed, not_freed, turn_freed, turn_kept}
use Rattle.trace_import.proofs.ends.ends.Goals as goal

pub loop-place-init : goal.loop-place-init
loop-place-init c =
    ends_none (map line_value c.args.lines.now) (length c.args.lines.now) c.new-frees.result.entries
    c.new-ends.result.items (sym (length-map c.args.lines.now line_value)) c.new-frees.ensures.empty
    c.new-ends.ensures.items

pub loop-place-preserved : goal.loop-place-preserved
loop-place-preserved c =
    let count : length c.args.lines.now ≡ length c.args.lines.now = refl in
    turn_kept c.args.lines.now c.loop-place.place c.index-lines-place.result (omega arith) (omega arith)
    c.index-lines-place.is c.loop-place.frees.entries c.loop-place.ends.items c.push.new.self.items c.id.result.now
    c.unwrap_or-end.result (length c.args.lines.now) c.loop-place.invariant count
    (not_freed (is_alloc (line_value c.index-lines-place.result)) (sym c.is_free.ensures ∙ c.if-is_free.false))
    c.id.ensures
    (c.unwrap_or-end.ensures
    ∙ ap (λ o. unwrap_or o (length c.args.lines.now)) (c.copied.ensures ∙ c.get.ensures.value))
    c.in_ok-push.ensures.items

pub loop-place-preserved-in_ok-insert : goal.loop-place-preserved-in_ok-insert
loop-place-preserved-in_ok-insert c =
    let count : length c.args.lines.now ≡ length c.args.lines.now = refl in
    turn_freed c.args.lines.now c.loop-place.place c.index-lines-place.result (omega arith) (omega arith)
    c.index-lines-place.is c.loop-place.frees c.insert.new.self c.loop-place.ends.items c.push.new.self.items
    c.id.result.now c.id-then-is_free.result.now
    c.unwrap_or-end.result (length c.args.lines.now) c.loop-place.invariant count
    (is_freed (is_alloc (line_value c.index-lines-place.result)) (sym c.is_free.ensures ∙ c.if-is_free.true))
    c.id.ensures c.id-then-is_free.ensures c.in_ok-insert.ensures.updates
    (c.unwrap_or-end.ensures
    ∙ ap (λ o. unwrap_or o (length c.args.lines.now)) (c.copied.ensures ∙ c.get.ensures.value))
    c.in_ok-push.ensures.items

pub returns : goal.returns
returns c =
    c.reverse.ensures.items
    ∙ ends_all (map line_value c.args.lines.now) c.loop-place.place c.loop-place.frees.entries c.loop-place.ends.items
    c.loop-place.invariant (omega arith)
