use Rattle.lifetime.proofs.Noting.{member_at}
use Rattle.lifetime.proofs.places.entries.Goals as goal

pub index-requires : goal.index-requires
index-requires c = member_at c.args.count c.loop-section.section-index c.args.sections.now c.section-item.result
    c.deref-b-items.result.now c.loop-b.b-index _ c.requires c.loop-section-test.true c.section-item.is
    c.deref-b-items.ensures.value c.loop-b-test.true c.loop-b.invariant

pub index_mut-requires : goal.index_mut-requires
index_mut-requires c = member_at c.args.count c.loop-section.section-index c.args.sections.now c.section-item.result
    c.deref-b-items.result.now c.loop-b.b-index _ c.requires c.loop-section-test.true c.section-item.is
    c.deref-b-items.ensures.value c.loop-b-test.true c.loop-b.invariant
