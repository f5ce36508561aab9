use Rattle.std.proofs.Common.{List, ◌∷◌, [], ◌++◌, map, ap, ◌∙◌}
use Rattle.std.proofs.lemmas.List.{take_all}
use Rattle.layout_picture.specs.Sides.{pair_of}
use Rattle.layout_picture.specs.declared.side.Side.{Side}
use Rattle.layout_picture.specs.declared.touching.Pair.{Pair}
use Rattle.layout_picture.proofs.Runs.{push_more}
use Rattle.layout_picture.proofs.SideLists.{no_side}
use Rattle.layout_picture.proofs.touching.push_pairs.Goals as goal

pub loop-side-preserved : goal.loop-side-preserved
loop-side-preserved c = push_more (λ (s : Side). pair_of c.args.buffer s.buffer) c.args.sides.now
    c.loop-side.side-index no_side c.args.pairs.now.items c.loop-side.pairs.items c.push.new.self.items
    c.loop-side-test.true c.loop-side.invariant
    (c.in_ok-push.ensures.items ∙ ap (λ (p : Pair). c.loop-side.pairs.items ++ p ∷ []) c.pair_of.ensures)

pub returns : goal.returns
returns c = c.loop-side.invariant ∙ ap (λ (ss : List Side). c.args.pairs.now.items
    ++ map (λ (s : Side). pair_of c.args.buffer s.buffer) ss)
    (take_all c.loop-side.side-index c.args.sides.now c.loop-side-test.false)
