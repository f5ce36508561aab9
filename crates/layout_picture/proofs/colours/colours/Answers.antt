use Rattle.std.proofs.Common.{ℕ, [], ◌∷◌, ◌++◌, ap, ◌∙◌, arith, rules}
use Rattle.dsa_model.specs.Buffer.{buffer_limit}
use Rattle.layout_picture.proofs.Colouring.{all_coloured, as_many_colours, colours_more, fewer, no_colours, so_many}
use Rattle.layout_picture.proofs.PairLemmas.{earlier_are, next_is}
use Rattle.layout_picture.proofs.colours.colours.Goals as goal

pub loop-b-init : goal.loop-b-init
loop-b-init c = no_colours _ _ _ (search rules)

pub colour_left-requires-clause-few : goal.colour_left-requires-clause-few
colour_left-requires-clause-few c = fewer c.args.instance.now c.args.offsets.now c.loop-b.colours.items
    c.deref.result.now c.loop-b.b buffer_limit c.loop-b.invariant c.deref.ensures.value
    (let k = c.len-b-end.ensures.limit in let e = c.len-b-end.ensures.value in let t = c.loop-b-test.true in
    omega arith)

pub colour_left-requires-clause-earlier : goal.colour_left-requires-clause-earlier
colour_left-requires-clause-earlier c = earlier_are c.args.instance.now c.args.offsets.now c.in_ok-pairs.pairs.items
    c.deref-in-loop-b.result.now c.pairs_of.result.now c.deref.result.now c.loop-b.b c.in_ok-pairs.ensures.touching
    c.deref-in-loop-b.ensures.value c.pairs_of.ensures
    (so_many c.args.instance.now c.args.offsets.now c.loop-b.colours.items c.deref.result.now c.loop-b.b
    c.loop-b.invariant c.deref.ensures.value)

pub loop-b-preserved : goal.loop-b-preserved
loop-b-preserved c = colours_more c.args.instance.now c.args.offsets.now c.loop-b.b c.loop-b.colours.items
    c.deref.result.now c.push.new.self.items c.loop-b.invariant c.deref.ensures.value
    (c.in_ok-push.ensures.items ∙ ap (λ (k : ℕ). c.loop-b.colours.items ++ k ∷ [])
    (c.colour_left.ensures ∙ next_is c.args.instance.now c.args.offsets.now c.in_ok-pairs.pairs.items
    c.deref-in-loop-b.result.now c.pairs_of.result.now c.deref.result.now c.loop-b.b c.in_ok-pairs.ensures.touching
    c.deref-in-loop-b.ensures.value c.pairs_of.ensures
    (so_many c.args.instance.now c.args.offsets.now c.loop-b.colours.items c.deref.result.now c.loop-b.b
    c.loop-b.invariant c.deref.ensures.value)
    (let e = c.len-b-end.ensures.value in let t = c.loop-b-test.true in omega arith)))

pub returns-clause-value : goal.returns-clause-value
returns-clause-value c = all_coloured c.args.instance.now c.args.offsets.now c.loop-b.colours.items c.loop-b.b
    c.loop-b.invariant (let k = c.len-b-end.ensures.value in omega arith)

pub returns-clause-count : goal.returns-clause-count
returns-clause-count c = as_many_colours c.args.instance.now c.args.offsets.now c.loop-b.colours.items c.loop-b.b
    c.loop-b.invariant (let k = c.len-b-end.ensures.value in omega arith)
