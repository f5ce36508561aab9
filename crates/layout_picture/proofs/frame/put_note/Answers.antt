use Rattle.layout_picture.proofs.Putting.{then_put}
use Rattle.layout_picture.proofs.frame.put_note.Goals as goal

pub returns : goal.returns
returns c =
    then_put c.args.text.now.items c.put.new.text.items c.put-2.new.text.items _ _
    c.in_ok-put.ensures
    c.in_ok-put-2.ensures
