use Rattle.std.proofs.Common.{◌≡◌, ◌∙◌, ◌+◌, ◌≤◌, ◌++◌, ◌∷◌, [], ap, arith, count_by, length, length-append, List, map, None, Ok, subst, sym}
use Rattle.dsa_model.specs.Limits.{file_limit}
use Rattle.trace_import.specs.Faults.{holder, place_fault}
use Rattle.trace_import.specs.Kept.{line_value}
use Rattle.trace_import.specs.Limits.{AreWithin}
use Rattle.trace_import.specs.Traces.{Alloc, Event, is_alloc}
use Rattle.trace_import.specs.declared.line.Line.TheVariants as line
use Rattle.trace_import.proofs.Accepted.{room, within_more}
use Rattle.trace_import.proofs.FoundLemmas.{holders_alloc}
use Rattle.trace_import.proofs.TraceLemmas.{counted_alloc, line_count, pushed, with_fault, with_none}
use Rattle.trace_import.proofs.trace.Trace.with_alloc.Goals as goal

pub returns-in-Some : goal.returns-in-Some
returns-in-Some c =
    with_fault c.args.self (Alloc c.args.id.now c.args.size c.args.alignment) c.in-Some.fault c.requires.good
    (sym (c.alloc_fault.ensures c.args.size c.args.alignment) ∙ c.in-Some.is)

pub invariant_of-result : goal.invariant_of-result
invariant_of-result c =
    let event = Alloc c.args.id.now c.args.size c.args.alignment in
    let view : map line_value c.push.new.self.items ≡ c.args.self ++ event ∷ [] =
    pushed c.self.inside.lines.items c.push.new.self.items (line.Alloc c.in_ok-kept.kept c.args.size c.args.alignment)
    event c.in_ok-push.ensures.items
    (ap (λ i. Alloc i c.args.size c.args.alignment) c.in_ok-kept.ensures.items)
    ∙ ap (λ (es : List Event). es ++ event ∷ []) c.self.view_is in
    let none : place_fault c.args.self event ≡ None =
    sym (c.alloc_fault.ensures c.args.size c.args.alignment) ∙ c.in_default.is in
    let free = room c.args.self c.args.id.now c.args.size c.args.alignment none in
    let before : c.self.inside.buffers ≡ count_by is_alloc c.args.self =
    c.self.invariant.counted ∙ ap (count_by is_alloc) c.self.view_is in
    record {
      within = subst AreWithin (sym view) (within_more c.args.self c.args.id.now c.args.size c.args.alignment
          (subst AreWithin c.self.view_is c.self.invariant.within) c.requires.within);
      few = omega (arith, before, free);
      counted = subst (λ es. c.self.inside.buffers + 1 ≡ count_by is_alloc es) (sym view)
          (ap (λ n. n + 1) before ∙ sym (counted_alloc c.args.self c.args.id.now c.args.size c.args.alignment));
      short = subst (λ es. length es ≤ file_limit) (sym view)
          (omega (arith, length-append c.args.self (event ∷ []), c.requires.short));
    }

pub returns : goal.returns
returns c =
    let event = Alloc c.args.id.now c.args.size c.args.alignment in
    let view : map line_value c.push.new.self.items ≡ c.args.self ++ event ∷ [] =
    pushed c.self.inside.lines.items c.push.new.self.items (line.Alloc c.in_ok-kept.kept c.args.size c.args.alignment)
    event c.in_ok-push.ensures.items
    (ap (λ i. Alloc i c.args.size c.args.alignment) c.in_ok-kept.ensures.items)
    ∙ ap (λ (es : List Event). es ++ event ∷ []) c.self.view_is in
    let none : place_fault c.args.self event ≡ None =
    sym (c.alloc_fault.ensures c.args.size c.args.alignment) ∙ c.in_default.is in
    let number : c.len-line.result ≡ length c.args.self =
    line_count c.self.inside.lines c.args.self c.len-line.result c.len-line.ensures c.self.view_is in (
      with_none c.args.self event c.requires.good none ∙ ap Ok (sym view),
      λ q. holders_alloc c.args.live.now c.insert.new.self c.args.id.now c.args.self c.args.size c.args.alignment
          (rw number at c.in_ok-insert.ensures.updates) c.requires.live q
          ∙ ap (λ es. holder es q) (sym view),
    )
