use Rattle.layout_picture.specs.Texts.{frame_text, marks_text}
use Rattle.layout_picture.proofs.Putting.{put_same, then_put}
use Rattle.layout_picture.proofs.frame.put_frame.Goals as goal

pub returns : goal.returns
unfolding frame_text
returns c =
    then_put c.args.text.now.items c.put_note.new.text.items c.put-5.new.text.items _ _
    (then_put c.args.text.now.items c.put-4.new.text.items c.put_note.new.text.items _ _
    (then_put c.args.text.now.items c.put_moments.new.text.items c.put-4.new.text.items _ _
    (then_put c.args.text.now.items c.put-3.new.text.items c.put_moments.new.text.items _ _
    (then_put c.args.text.now.items c.put_marks.new.text.items c.put-3.new.text.items _ _
    (then_put c.args.text.now.items c.put-2.new.text.items c.put_marks.new.text.items _ _
    (then_put c.args.text.now.items c.put_axes.new.text.items c.put-2.new.text.items _ _
    (then_put c.args.text.now.items c.put.new.text.items c.put_axes.new.text.items _ _
    c.in_ok-put.ensures
    c.in_ok-put_axes.ensures)
    c.in_ok-put-2.ensures)
    (put_same c.put-2.new.text.items c.put_marks.new.text.items
    (marks_text c.args.scale.now) _ _ c.greatest.ensures c.in_ok-put_marks.ensures))
    c.in_ok-put-3.ensures)
    c.in_ok-put_moments.ensures)
    c.in_ok-put-4.ensures)
    c.in_ok-put_note.ensures)
    c.in_ok-put-5.ensures
