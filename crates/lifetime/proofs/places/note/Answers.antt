use Rattle.std.proofs.Common.{rules, refl}
use Rattle.lifetime.proofs.Noting.{noted_all, noted_more}
use Rattle.lifetime.proofs.places.note.Goals as goal

pub loop-b-preserved : goal.loop-b-preserved
loop-b-preserved c = noted_more c.args.members.now c.args.s c.loop-b.b-index _ c.args.lists.now c.loop-b.lists _
    c.push.new.self c.index-lists-b.result c.requires.rises
    c.loop-b.invariant c.loop-b-test.true refl (c.requires.in_range c.loop-b.b-index 0 c.loop-b-test.true)
    c.index-lists-b.is (search rules) refl

pub returns : goal.returns
returns c = noted_all c.args.members.now c.args.s c.loop-b.b-index c.args.lists.now c.loop-b.lists (search rules)
    c.loop-b.invariant
