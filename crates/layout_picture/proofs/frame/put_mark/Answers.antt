use Rattle.layout_picture.proofs.Putting.{then_put}
use Rattle.layout_picture.proofs.frame.put_mark.Goals as goal

pub returns : goal.returns
returns c =
    then_put c.args.text.now.items c.put_number-2.new.text.items c.put-5.new.text.items _ _
    (then_put c.args.text.now.items c.put-4.new.text.items c.put_number-2.new.text.items _ _
    (then_put c.args.text.now.items c.put-3.new.text.items c.put-4.new.text.items _ _
    (then_put c.args.text.now.items c.put_attribute.new.text.items c.put-3.new.text.items _ _
    (then_put c.args.text.now.items c.put-2.new.text.items c.put_attribute.new.text.items _ _
    (then_put c.args.text.now.items c.put_number.new.text.items c.put-2.new.text.items _ _
    (then_put c.args.text.now.items c.put.new.text.items c.put_number.new.text.items _ _
    c.in_ok-put.ensures c.in_ok-put_number.ensures) c.in_ok-put-2.ensures) c.in_ok-put_attribute.ensures)
    c.in_ok-put-3.ensures) c.in_ok-put-4.ensures) c.in_ok-put_number-2.ensures) c.in_ok-put-5.ensures
