use Rattle.std.proofs.Common.{ℕ, [], ◌∷◌, ◌++◌, sym, ap, ◌∙◌}
use Rattle.layout_picture.specs.Rectangles.{begins_at, rectangle_at}
use Rattle.layout_picture.proofs.Runs.{made, mapped_more, mapped_none, mapped_one}
use Rattle.layout_picture.proofs.rectangle.push_rectangles.Goals.{then-begins_at+in_ok-push, else-begins_at}
use Rattle.layout_picture.proofs.rectangle.push_rectangles.Goals as goal

pub loop-k-preserved : goal.loop-k-preserved
loop-k-preserved c =
    mapped_more (rectangle_at c.args.flags.now c.args.buffer c.args.place c.args.top) (begins_at c.args.flags.now)
    c.loop-k.k _ c.loop-k.rectangles.items c.if-begins_at.rectangles.items c.loop-k.invariant
    (elim c.if-begins_at.branch [
      | then-begins_at+in_ok-push w ↦
          mapped_one (rectangle_at c.args.flags.now c.args.buffer c.args.place c.args.top) c.loop-k.k _
          c.loop-k.rectangles.items c.if-begins_at.rectangles.items
          (sym c.begins_at.ensures ∙ w.if-begins_at.true)
          (ap (λ v. v.items) w.rectangles-is ∙ w.in_ok-push.ensures.items
          ∙ ap (λ (end : ℕ). c.loop-k.rectangles.items
          ++ made c.args.buffer c.args.place c.args.top c.loop-k.k end ∷ []) w.run_end.ensures.value)
      | else-begins_at w ↦
          mapped_none (rectangle_at c.args.flags.now c.args.buffer c.args.place c.args.top) c.loop-k.k _
          c.loop-k.rectangles.items c.if-begins_at.rectangles.items
          (sym c.begins_at.ensures ∙ w.if-begins_at.false) (ap (λ v. v.items) w.rectangles-is)
    ])
