use Rattle.std.proofs.Common.{ℕ, [], ◌≡◌, ◌++◌, List, length, ap, ◌∙◌, arith}
use Rattle.std.specs.List.{flat_map}
use Rattle.dsa_terms.specs.Parts.{numbers}
use Rattle.layout_picture.specs.Rectangles.{rectangles, rectangles_of}
use Rattle.layout_picture.specs.declared.rectangle.Rectangle.{Rectangle}
use Rattle.layout_picture.proofs.Runs.{are_of_buffers, flat_more, live_are, rectangles_are}
use Rattle.layout_picture.proofs.rectangle.rectangles.Goals as goal

pub loop-b-preserved : goal.loop-b-preserved
loop-b-preserved c =
    flat_more (rectangles_of c.args.instance.now c.args.offsets.now) c.loop-b.b [] c.loop-b.all.items
    c.push_rectangles.new.rectangles.items c.loop-b.invariant
    (c.in_ok-push_rectangles.ensures ∙ ap (λ (xs : List Rectangle). c.loop-b.all.items ++ xs)
    (rectangles_are c.args.instance.now c.args.offsets.now c.loop-b.b c.deref.result.now
    c.buffer-buffer.result.now c.size.result
    (live_are c.deref.result.now c.in_ok-flags.flags.items c.buffer-buffer.result.now _ c.args.columns.now _
    c.deref.ensures.value c.in_ok-flags.ensures c.buffer-buffer.ensures.value c.requires.columns)
    c.buffer-buffer.ensures.value c.size.ensures.value))

pub returns : goal.returns
unfolding rectangles
returns c =
    let e : c.loop-b.b ≡ length c.args.instance.now = omega arith in
    let is : c.loop-b.all.items ≡ rectangles c.args.instance.now c.args.offsets.now =
    c.loop-b.invariant
    ∙ ap (λ (n : ℕ). flat_map (rectangles_of c.args.instance.now c.args.offsets.now) (numbers n)) e in
    record { value = is; buffers = are_of_buffers c.args.instance.now c.args.offsets.now c.loop-b.all.items is }
