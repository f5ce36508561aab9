use Rattle.std.proofs.Common.{refl, ap, ◌∙◌, arith, rules}
use Rattle.dsa_terms.specs.Buffers.{Buffer}
use Rattle.dsa_terms.proofs.Places.{handed}
use Rattle.layout_picture.proofs.Runs.{live_are}
use Rattle.layout_picture.proofs.Summing.{as_many, have_room, summed_all, summed_limit, summed_more, summed_none}
use Rattle.layout_picture.proofs.loads.loads.Goals as goal

pub loop-b-init : goal.loop-b-init
loop-b-init c = summed_none c.args.instance.now c.args.columns.now c.in_ok-loads.loads.items (search rules)

pub add_live-requires-clause-count : goal.add_live-requires-clause-count
add_live-requires-clause-count c = as_many c.args.instance.now c.args.columns.now c.loop-b.loads.items _ _ _ _
    c.loop-b.b
    c.loop-b.invariant c.deref_mut.ensures.value c.deref.ensures.value c.in_ok-flags.ensures

pub add_live-requires-clause-room : goal.add_live-requires-clause-room
add_live-requires-clause-room c = have_room c.args.instance.now c.args.columns.now c.loop-b.loads.items _ c.loop-b.b
    c.size.result c.loop-b.invariant c.deref_mut.ensures.value (let k = c.len-b-end.ensures.limit in omega arith)
    (let k = c.size.ensures.buffer.within_size in let z = c.size.ensures.value in omega arith)

pub loop-b-preserved : goal.loop-b-preserved
loop-b-preserved c =
    rw (handed c.add_live.new.loads _ c.loop-b.loads.len (search rules))
    (summed_more c.args.instance.now c.args.columns.now c.loop-b.loads.items c.deref_mut.result.now
    c.add_live.new.loads c.deref.result.now c.loop-b.b c.size.result c.loop-b.invariant c.deref_mut.ensures.value
    (let k = c.len-b-end.ensures.value in omega arith)
    (live_are c.deref.result.now c.in_ok-flags.flags.items c.buffer-buffer.result.now _ c.args.columns.now _
    c.deref.ensures.value c.in_ok-flags.ensures c.buffer-buffer.ensures.value refl)
    (c.size.ensures.value ∙ ap (λ (z : Buffer). z.size) c.buffer-buffer.ensures.value)
    (let k = c.size.ensures.buffer.within_size in let z = c.size.ensures.value in omega arith)
    (search rules) c.add_live.ensures)

pub returns : goal.returns
returns c = record {
  value = summed_all c.args.instance.now c.args.columns.now c.loop-b.loads.items c.loop-b.b c.loop-b.invariant
      (let k = c.len-b-end.ensures.value in omega arith);
  limit = summed_limit c.args.instance.now c.args.columns.now c.loop-b.loads.items c.loop-b.b c.loop-b.invariant
      (let k = c.len-b-end.ensures.limit in omega arith);
}
