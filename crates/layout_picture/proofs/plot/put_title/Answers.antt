use Rattle.std.proofs.Common.{decimal}
use Rattle.layout_picture.proofs.Putting.{put_same, then_put}
use Rattle.layout_picture.proofs.plot.put_title.Goals as goal

pub returns : goal.returns
returns c =
    then_put c.args.text.now.items c.put-4.new.text.items c.put_escaped.new.text.items _ _
    (then_put c.args.text.now.items c.put_number-4.new.text.items c.put-4.new.text.items _ _
    (then_put c.args.text.now.items c.put-3.new.text.items c.put_number-4.new.text.items _ _
    (then_put c.args.text.now.items c.put_number-3.new.text.items c.put-3.new.text.items _ _
    (then_put c.args.text.now.items c.put-2.new.text.items c.put_number-3.new.text.items _ _
    (then_put c.args.text.now.items c.put_number-2.new.text.items c.put-2.new.text.items _ _
    (then_put c.args.text.now.items c.put.new.text.items c.put_number-2.new.text.items _ _
    (then_put c.args.text.now.items c.put_number.new.text.items c.put.new.text.items _ _
    (put_same c.args.text.now.items c.put_number.new.text.items decimal _ _ c.size.ensures.value
    c.in_ok-put_number.ensures)
    c.in_ok-put.ensures)
    c.in_ok-put_number-2.ensures)
    c.in_ok-put-2.ensures)
    (put_same c.put-2.new.text.items c.put_number-3.new.text.items decimal _ _ c.lower.ensures.value
    c.in_ok-put_number-3.ensures))
    c.in_ok-put-3.ensures)
    (put_same c.put-3.new.text.items c.put_number-4.new.text.items decimal _ _ c.upper.ensures.value
    c.in_ok-put_number-4.ensures))
    c.in_ok-put-4.ensures)
    c.in_ok-put_escaped.ensures
