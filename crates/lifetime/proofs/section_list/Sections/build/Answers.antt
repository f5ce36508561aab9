use Rattle.std.proofs.Common.{arith, map}
use Rattle.std.proofs.lemmas.List.{length-map}
use Rattle.lifetime.specs.Views.{section_of}
use Rattle.lifetime.proofs.Belonging.{begins, belongs, kept_of, made_of, members_below}
use Rattle.lifetime.proofs.section_list.Sections.build.Goals as goal

pub places-requires-clause-members : goal.places-requires-clause-members
places-requires-clause-members c =
    let t = c.in_ok-sections.ensures.runs in
    rw (c.deref.ensures.value, c.len.ensures.value) (members_below c.args.instance.now
    (map section_of c.in_ok-sections.sections.items) (λ x i. t.plain.each x (t.thinned.chosen x i)))

pub of_lists-requires : goal.of_lists-requires
of_lists-requires c =
    let made = made_of c.args.instance.now _ _ _ _ c.len.ensures.buffers c.len.ensures.value
    c.in_ok-sections.ensures.runs c.in_ok-of_buffers.ensures c.deref.ensures.value in
    kept_of c.args.instance.now _ (belongs _ _ made)
    (let k = length-map c.in_ok-sections.sections.items section_of in
    let a = c.in_ok-sections.ensures.limit in
    let d = c.len.ensures.limit in let e = c.len.ensures.value in omega arith)

pub returns-clause-sections : goal.returns-clause-sections
returns-clause-sections c = rw (c.of_lists.ensures)
    (belongs _ _ (made_of c.args.instance.now _ _ _ _ c.len.ensures.buffers c.len.ensures.value
    c.in_ok-sections.ensures.runs c.in_ok-of_buffers.ensures c.deref.ensures.value))

pub returns-clause-runs : goal.returns-clause-runs
returns-clause-runs c = rw (c.of_lists.ensures)
    (begins _ _ (made_of c.args.instance.now _ _ _ _ c.len.ensures.buffers c.len.ensures.value
    c.in_ok-sections.ensures.runs c.in_ok-of_buffers.ensures c.deref.ensures.value))

pub returns-clause-stand : goal.returns-clause-stand
returns-clause-stand c =
    let made = made_of c.args.instance.now _ _ _ _ c.len.ensures.buffers c.len.ensures.value
    c.in_ok-sections.ensures.runs c.in_ok-of_buffers.ensures c.deref.ensures.value in
    rw (c.of_lists.ensures) made.stand
