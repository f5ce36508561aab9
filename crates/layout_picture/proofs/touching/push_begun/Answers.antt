use Rattle.std.proofs.Common.{◌++◌, List, map, get_or, ap, ◌∙◌}
use Rattle.layout_picture.specs.Sides.{pair_of, pairs_begun}
use Rattle.layout_picture.specs.declared.side.Side.{Side}
use Rattle.layout_picture.proofs.Runs.{put_more}
use Rattle.layout_picture.proofs.SideLists.{no_side}
use Rattle.layout_picture.proofs.touching.push_begun.Goals as goal

pub loop-side-preserved : goal.loop-side-preserved
loop-side-preserved c = put_more (pairs_begun c.args.others.now) c.args.sides.now c.loop-side.side-index no_side
    c.args.pairs.now.items c.loop-side.pairs.items c.push_pairs.new.pairs.items c.loop-side-test.true
    c.loop-side.invariant (c.in_ok-push_pairs.ensures ∙ ap (λ (ts : List Side). c.loop-side.pairs.items
    ++ map (λ (t : Side). pair_of (get_or c.args.sides.now c.loop-side.side-index no_side).buffer t.buffer) ts)
    c.begun_on.ensures)
