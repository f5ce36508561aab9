use Rattle.layout_picture.proofs.Putting.{then_put}
use Rattle.layout_picture.proofs.plot.put_id.Goals as goal

pub returns : goal.returns
returns c =
    then_put c.args.text.now.items c.put_escaped.new.text.items c.put-3.new.text.items _ _
    (then_put c.args.text.now.items c.put-2.new.text.items c.put_escaped.new.text.items _ _
    (then_put c.args.text.now.items c.put_attribute-2.new.text.items c.put-2.new.text.items _ _
    (then_put c.args.text.now.items c.put_attribute.new.text.items c.put_attribute-2.new.text.items _ _
    (then_put c.args.text.now.items c.put.new.text.items c.put_attribute.new.text.items _ _
    c.in_ok-put.ensures
    c.in_ok-put_attribute.ensures)
    c.in_ok-put_attribute-2.ensures)
    c.in_ok-put-2.ensures)
    c.in_ok-put_escaped.ensures)
    c.in_ok-put-3.ensures
