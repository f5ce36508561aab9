use Rattle.std.proofs.Common.{ℕ, ◌+◌, ◌-◌, codes}
use Rattle.layout_picture.specs.Texts.{mark_text}
use Rattle.layout_picture.proofs.Putting.{put_same, then_put}
use Rattle.layout_picture.proofs.frame.put_marks.Goals as goal

pub returns : goal.returns
returns c =
    then_put c.args.text.now.items c.put_mark.new.text.items c.put_mark-2.new.text.items _ _
    (put_same c.args.text.now.items c.put_mark.new.text.items
    (λ (y : ℕ). mark_text (codes "height ") c.args.scale.now.height y (y - 2)) _ _ c.y-top.ensures.value
    c.in_ok-put_mark.ensures)
    (put_same c.put_mark.new.text.items c.put_mark-2.new.text.items
    (λ (y : ℕ). mark_text (codes "peak ") c.args.peak y (y + 12)) _ _ c.y-most.ensures.value
    c.in_ok-put_mark-2.ensures)
