use Rattle.layout_picture.specs.Sides.{begins_on, is_before}
use Rattle.layout_picture.proofs.Parting.{part_between}
use Rattle.layout_picture.proofs.SideOrder.{before_more, begun_is}
use Rattle.layout_picture.proofs.side.begun_on.Goals as goal

pub returns : goal.returns
returns c = part_between (is_before c.args.on.now.line c.args.on.now.from)
    (is_before c.args.on.now.line c.args.on.now.to)
    (begins_on c.args.on.now) c.args.sides.now c.count_before-first.result c.count_before-end.result
    (before_more c.args.on.now c.requires.some) (begun_is c.args.on.now) c.count_before-first.ensures.point
    c.count_before-end.ensures.point c.count_before-first.ensures.within c.count_before-end.ensures.within
