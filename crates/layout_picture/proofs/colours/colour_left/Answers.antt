use Rattle.std.proofs.Common.{◌%◌, not, length, ap, sym, ◌∙◌, arith}
use Rattle.layout_picture.specs.Sides.{colour_left, has_colour}
use Rattle.layout_picture.proofs.Colouring.{first_is, first_not, still_none}
use Rattle.layout_picture.proofs.colours.colour_left.Goals as goal

pub returns-then-not-has_colour : goal.returns-then-not-has_colour
unfolding colour_left
returns-then-not-has_colour c = first_is (λ k. not (has_colour c.args.colours.now c.args.pairs.now k))
    c.loop-colour.colour 8 (length c.args.colours.now % 8) (omega arith) c.loop-colour.invariant
    (ap not (sym c.has_colour.ensures ∙ c.if-not-has_colour.true))

pub loop-colour-preserved : goal.loop-colour-preserved
loop-colour-preserved c = still_none (λ k. not (has_colour c.args.colours.now c.args.pairs.now k))
    c.loop-colour.colour c.loop-colour.invariant (ap not (sym c.has_colour.ensures ∙ c.if-not-has_colour.false))

pub returns : goal.returns
unfolding colour_left
returns c = first_not (λ k. not (has_colour c.args.colours.now c.args.pairs.now k))
    c.loop-colour.colour 8 (length c.args.colours.now % 8) (omega arith) c.loop-colour.invariant
