use Rattle.std.proofs.Common.{map, ap, ◌∙◌}
use Rattle.std.proofs.lemmas.List.{take_all}
use Rattle.layout_picture.specs.Sides.{lower_side, upper_side}
use Rattle.layout_picture.proofs.SideLists.{stacked_more}
use Rattle.layout_picture.proofs.touching.stacked.Goals as goal

pub loop-rectangle-init : goal.loop-rectangle-init
loop-rectangle-init c = record { ends = c.in_ok-ends.ensures.items; begins = c.in_ok-begins.ensures.items }

pub loop-rectangle-preserved : goal.loop-rectangle-preserved
loop-rectangle-preserved c = record {
  ends = stacked_more upper_side c.args.rectangles.now c.loop-rectangle.rectangle-index c.loop-rectangle.ends.items
      c.push.new.self.items c.loop-rectangle.invariant.ends c.loop-rectangle-test.true c.in_ok-push.ensures.items;
  begins = stacked_more lower_side c.args.rectangles.now c.loop-rectangle.rectangle-index
      c.loop-rectangle.begins.items c.push-in-loop-rectangle.new.self.items c.loop-rectangle.invariant.begins
      c.loop-rectangle-test.true c.in_ok-push-2.ensures.items;
}

pub returns : goal.returns
returns c = record {
  ends = c.loop-rectangle.invariant.ends ∙ ap (map upper_side)
      (take_all c.loop-rectangle.rectangle-index c.args.rectangles.now c.loop-rectangle-test.false);
  begins = c.loop-rectangle.invariant.begins ∙ ap (map lower_side)
      (take_all c.loop-rectangle.rectangle-index c.args.rectangles.now c.loop-rectangle-test.false);
}
