use Rattle.layout_picture.proofs.Putting.{then_put}
use Rattle.layout_picture.proofs.put.put_area.Goals as goal

pub returns : goal.returns
returns c =
    then_put c.args.text.now.items c.put_number-5.new.text.items c.put-6.new.text.items _ _
    (then_put c.args.text.now.items c.put-5.new.text.items c.put_number-5.new.text.items _ _
    (then_put c.args.text.now.items c.put_number-4.new.text.items c.put-5.new.text.items _ _
    (then_put c.args.text.now.items c.put-4.new.text.items c.put_number-4.new.text.items _ _
    (then_put c.args.text.now.items c.put_number-3.new.text.items c.put-4.new.text.items _ _
    (then_put c.args.text.now.items c.put-3.new.text.items c.put_number-3.new.text.items _ _
    (then_put c.args.text.now.items c.put_number-2.new.text.items c.put-3.new.text.items _ _
    (then_put c.args.text.now.items c.put-2.new.text.items c.put_number-2.new.text.items _ _
    (then_put c.args.text.now.items c.put_number.new.text.items c.put-2.new.text.items _ _
    (then_put c.args.text.now.items c.put.new.text.items c.put_number.new.text.items _ _
    c.in_ok-put.ensures
    c.in_ok-put_number.ensures)
    c.in_ok-put-2.ensures)
    c.in_ok-put_number-2.ensures)
    c.in_ok-put-3.ensures)
    c.in_ok-put_number-3.ensures)
    c.in_ok-put-4.ensures)
    c.in_ok-put_number-4.ensures)
    c.in_ok-put-5.ensures)
    c.in_ok-put_number-5.ensures)
    c.in_ok-put-6.ensures
