use Rattle.std.proofs.Common.{sym, append-nil, arith}
use Rattle.csv_instance.specs.Offsets.{ids_of}
use Rattle.layout_picture.specs.Texts.{rectangle_text}
use Rattle.layout_picture.proofs.Runs.{no_rectangle, put_all, put_more}
use Rattle.layout_picture.proofs.plot.put_rectangles.Goals as goal

pub put_rectangle-requires-clause-id : goal.put_rectangle-requires-clause-id
put_rectangle-requires-clause-id c =
    let h = c.requires.buffers c.loop-rectangle.rectangle-index no_rectangle c.loop-rectangle-test.true in
    let e = c.requires.ids in omega arith

pub put_rectangle-requires-clause-buffer : goal.put_rectangle-requires-clause-buffer
put_rectangle-requires-clause-buffer c =
    c.requires.buffers c.loop-rectangle.rectangle-index no_rectangle c.loop-rectangle-test.true

pub loop-rectangle-init : goal.loop-rectangle-init
loop-rectangle-init c = sym (append-nil c.args.text.now.items)

pub loop-rectangle-preserved : goal.loop-rectangle-preserved
loop-rectangle-preserved c =
    put_more (rectangle_text c.args.scale.now c.args.instance.now (ids_of c.args.table.now) c.args.colours.now)
    c.args.rectangles.now
    c.loop-rectangle.rectangle-index no_rectangle c.args.text.now.items c.loop-rectangle.text.items
    c.put_rectangle.new.text.items c.loop-rectangle-test.true c.loop-rectangle.invariant c.in_ok-put_rectangle.ensures

pub returns : goal.returns
returns c =
    put_all (rectangle_text c.args.scale.now c.args.instance.now (ids_of c.args.table.now) c.args.colours.now)
    c.args.rectangles.now
    c.loop-rectangle.rectangle-index c.args.text.now.items c.loop-rectangle.text.items
    c.loop-rectangle-test.false c.loop-rectangle.invariant
