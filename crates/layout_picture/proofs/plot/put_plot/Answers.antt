use Rattle.std.proofs.Common.{arith}
use Rattle.layout_picture.specs.Texts.{plot_text}
use Rattle.layout_picture.proofs.Putting.{then_put}
use Rattle.layout_picture.proofs.plot.put_plot.Goals as goal

pub put_labels-requires : goal.put_labels-requires
put_labels-requires c = λ k d lt. (let h = c.requires.buffers k d lt in let e = c.requires.ids in omega arith)

pub returns : goal.returns
unfolding plot_text
returns c =
    then_put c.args.text.now.items c.put_labels.new.text.items c.put-4.new.text.items _ _
    (then_put c.args.text.now.items c.put-3.new.text.items c.put_labels.new.text.items _ _
    (then_put c.args.text.now.items c.put_load.new.text.items c.put-3.new.text.items _ _
    (then_put c.args.text.now.items c.put-2.new.text.items c.put_load.new.text.items _ _
    (then_put c.args.text.now.items c.put_rectangles.new.text.items c.put-2.new.text.items _ _
    (then_put c.args.text.now.items c.put.new.text.items c.put_rectangles.new.text.items _ _
    c.in_ok-put.ensures
    c.in_ok-put_rectangles.ensures)
    c.in_ok-put-2.ensures)
    c.in_ok-put_load.ensures)
    c.in_ok-put-3.ensures)
    c.in_ok-put_labels.ensures)
    c.in_ok-put-4.ensures
