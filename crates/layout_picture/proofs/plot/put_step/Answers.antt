use Rattle.std.proofs.Common.{decimal}
use Rattle.layout_picture.specs.Texts.{load_step}
use Rattle.layout_picture.proofs.Putting.{put_same, then_put}
use Rattle.layout_picture.proofs.plot.put_step.Goals as goal

pub returns : goal.returns
unfolding load_step
returns c =
    then_put c.args.text.now.items c.put-2.new.text.items c.put_number-2.new.text.items _ _
    (then_put c.args.text.now.items c.put_number.new.text.items c.put-2.new.text.items _ _
    (then_put c.args.text.now.items c.put.new.text.items c.put_number.new.text.items _ _
    c.in_ok-put.ensures
    (put_same c.put.new.text.items c.put_number.new.text.items decimal _ _ c.x.ensures.value
    c.in_ok-put_number.ensures))
    c.in_ok-put-2.ensures)
    (put_same c.put-2.new.text.items c.put_number-2.new.text.items decimal _ _ c.y.ensures.value
    c.in_ok-put_number-2.ensures)
