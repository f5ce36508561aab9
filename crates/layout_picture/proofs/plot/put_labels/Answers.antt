use Rattle.std.proofs.Common.{sym, append-nil}
use Rattle.csv_instance.specs.Offsets.{ids_of}
use Rattle.layout_picture.specs.Texts.{label_text}
use Rattle.layout_picture.proofs.Runs.{no_rectangle, put_all, put_more}
use Rattle.layout_picture.proofs.plot.put_labels.Goals as goal

pub put_label-requires : goal.put_label-requires
put_label-requires c = c.requires c.loop-rectangle.rectangle-index no_rectangle c.loop-rectangle-test.true

pub loop-rectangle-init : goal.loop-rectangle-init
loop-rectangle-init c = sym (append-nil c.args.text.now.items)

pub loop-rectangle-preserved : goal.loop-rectangle-preserved
loop-rectangle-preserved c =
    put_more (label_text c.args.scale.now (ids_of c.args.table.now)) c.args.rectangles.now
    c.loop-rectangle.rectangle-index no_rectangle c.args.text.now.items c.loop-rectangle.text.items
    c.put_label.new.text.items c.loop-rectangle-test.true c.loop-rectangle.invariant c.in_ok-put_label.ensures

pub returns : goal.returns
returns c =
    put_all (label_text c.args.scale.now (ids_of c.args.table.now)) c.args.rectangles.now
    c.loop-rectangle.rectangle-index c.args.text.now.items c.loop-rectangle.text.items
    c.loop-rectangle-test.false c.loop-rectangle.invariant
