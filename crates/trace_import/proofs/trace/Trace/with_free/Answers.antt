use Rattle.std.proofs.Common.{◌≡◌, ◌∙◌, ◌≤◌, ◌++◌, ◌∷◌, [], ap, arith, count_by, is_some, length, length-append, List, map, not, Ok, refl, subst, sym, true}
use Rattle.dsa_model.specs.Limits.{file_limit}
use Rattle.trace_import.specs.Faults.{holder}
use Rattle.trace_import.specs.Kept.{line_value}
use Rattle.trace_import.specs.Limits.{AreWithin}
use Rattle.trace_import.specs.Traces.{Event, Free, is_alloc}
use Rattle.trace_import.specs.declared.line.Line.TheVariants as line
use Rattle.trace_import.proofs.Accepted.{within_freed}
use Rattle.trace_import.proofs.FoundLemmas.{holders_free}
use Rattle.trace_import.proofs.TraceLemmas.{counted_free, is_live, pushed, with_none}
use Rattle.trace_import.proofs.trace.Trace.with_free.Goals as goal

pub invariant_of-result : goal.invariant_of-result
invariant_of-result c =
    let event = Free c.args.id.now in
    let view : map line_value c.push.new.self.items ≡ c.args.self ++ event ∷ [] =
    pushed c.self.inside.lines.items c.push.new.self.items (line.Free c.in_ok-kept.kept)
    event c.in_ok-push.ensures.items (ap Free c.in_ok-kept.ensures.items)
    ∙ ap (λ (es : List Event). es ++ event ∷ []) c.self.view_is in
    let before : c.self.inside.buffers ≡ count_by is_alloc c.args.self =
    c.self.invariant.counted ∙ ap (count_by is_alloc) c.self.view_is in
    record {
      within = subst AreWithin (sym view) (within_freed c.args.self c.args.id.now
          (subst AreWithin c.self.view_is c.self.invariant.within));
      few = c.self.invariant.few;
      counted = subst (λ es. c.self.inside.buffers ≡ count_by is_alloc es) (sym view)
          (before ∙ sym (counted_free c.args.self c.args.id.now));
      short = subst (λ es. length es ≤ file_limit) (sym view)
          (omega (arith, length-append c.args.self (event ∷ []), c.requires.short));
    }

pub returns : goal.returns
returns c =
    let event = Free c.args.id.now in
    let view : map line_value c.push.new.self.items ≡ c.args.self ++ event ∷ [] =
    pushed c.self.inside.lines.items c.push.new.self.items (line.Free c.in_ok-kept.kept)
    event c.in_ok-push.ensures.items (ap Free c.in_ok-kept.ensures.items)
    ∙ ap (λ (es : List Event). es ++ event ∷ []) c.self.view_is in
    let live : is_some (holder c.args.self c.args.id.now) ≡ true =
    ap is_some (sym (c.requires.live c.args.id.now) ∙ sym c.swap_remove.ensures.value)
    ∙ c.is_none.ensures ∙ ap not c.if-is_none.false in (
      with_none c.args.self event refl (is_live c.args.self c.args.id.now live) ∙ ap Ok (sym view),
      λ q. holders_free c.args.live.now c.swap_remove.new.self c.args.id.now c.args.self
          c.swap_remove.ensures.updates c.requires.live q
          ∙ ap (λ es. holder es q) (sym view),
    )
