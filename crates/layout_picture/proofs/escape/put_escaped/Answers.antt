use Rattle.std.proofs.Common.{arith, rules}
use Rattle.std.proofs.lemmas.List.{take_rest}
use Rattle.layout_picture.proofs.Escaping.{all_put, piece_put}
use Rattle.layout_picture.proofs.escape.put_escaped.Goals as goal

pub loop-rest-preserved : goal.loop-rest-preserved
loop-rest-preserved c =
    piece_put c.args.bytes.now c.loop-rest.rest.now _ c.in_ok-size.size c.args.text.now.items c.loop-rest.text.items _
    c.in_ok-size.ensures.within.0 c.in_ok-size.ensures.size (let a = c.in_ok-size.ensures.within in omega arith)
    (take_rest c.loop-rest.rest.now c.in_ok-size.size) c.in_ok-size.ensures.text c.loop-rest.invariant

pub returns : goal.returns
returns c = all_put c.args.bytes.now c.loop-rest.rest.now _ _ (search rules) c.loop-rest.invariant
