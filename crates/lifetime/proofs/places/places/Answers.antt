use Rattle.std.proofs.Common.{rules, sym, ap, ◌∙◌, map}
use Rattle.dsa_terms.proofs.Places.{handed}
use Rattle.lifetime.specs.SectionList.{Section}
use Rattle.lifetime.specs.Places.{ends_with}
use Rattle.dsa_model.specs.Lists.{items_of}
use Rattle.lifetime.specs.Views.{section_of}
use Rattle.lifetime.specs.declared.section_list.Section.{Section as Declared}
use Rattle.lifetime.proofs.Noting.{places_below, places_more, ready, section_at}
use Rattle.lifetime.proofs.places.places.Goals as goal

pub note-requires-clause-in_range : goal.note-requires-clause-in_range
note-requires-clause-in_range c = (ready c.args.count c.loop-s.s c.args.sections.now c.index-sections-s.result _
    c.loop-s.lists.items _ (places_below (map section_of c.args.sections.now) c.loop-s.s)
    c.requires.members c.loop-s-test.true c.index-sections-s.is (search rules) c.deref_mut.ensures.value
    c.loop-s.invariant).1

pub note-requires-clause-rises : goal.note-requires-clause-rises
note-requires-clause-rises c = (ready c.args.count c.loop-s.s c.args.sections.now c.index-sections-s.result _
    c.loop-s.lists.items _ (places_below (map section_of c.args.sections.now) c.loop-s.s)
    c.requires.members c.loop-s-test.true c.index-sections-s.is (search rules) c.deref_mut.ensures.value
    c.loop-s.invariant).0

pub loop-s-preserved : goal.loop-s-preserved
loop-s-preserved c =
    rw (handed c.note.new.lists _ c.loop-s.lists.len (search rules))
    (places_more (map section_of c.args.sections.now) c.loop-s.s c.args.count c.deref.result.now
    (map items_of c.loop-s.lists.items) (map items_of c.note.new.lists) c.loop-s.invariant
    (c.deref.ensures.value ∙ (ap (λ (x : Declared). x.members.items) (sym c.index-sections-s.is) ∙ ap
    (λ (y : Section). y.members) (sym (section_at c.args.sections.now c.loop-s.s c.index-sections-s.result
    c.loop-s-test.true c.index-sections-s.is))))
    (c.in_ok-note.ensures ∙ ap (λ vs. ends_with c.deref.result.now c.loop-s.s (map items_of vs))
    c.deref_mut.ensures.value))
