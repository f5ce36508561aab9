use Rattle.std.proofs.Common.{◌≡◌, ◌∙◌, ◌&&◌, false, is_some, sym}
use Rattle.trace_import.specs.Lines.{is_id, number_of}
use Rattle.trace_import.proofs.Words.{alloc_not, alloc_unaligned, alloc_unnamed, alloc_unsized, alloc_written}
use Rattle.trace_import.proofs.request.alloc_words.Goals as goal
use Rattle.trace_import.proofs.request.alloc_words.Goals.{else-is_id-via-then-is_id+then-is_number+else-is_number-2, else-is_id-via-then-is_id+else-is_number, else-is_id-via-else-is_id}

pub returns-then-is_number-2 : goal.returns-then-is_number-2
returns-then-is_number-2 c =
    alloc_written c.args.rest.now c.in_ok-id.id.now c.in_ok-id.rest.now c.in_ok-size.size.now
    c.in_ok-size.alignment.now c.in_ok-id.ensures.some c.in_ok-size.ensures.some
    (sym c.is_id.ensures ∙ c.if-is_id.true)
    (sym c.is_number.ensures ∙ c.if-is_number.true)
    (sym c.is_number-then-is_number.ensures ∙ c.if-is_number-2.true)

pub returns-else-is_id : goal.returns-else-is_id
returns-else-is_id c =
    let a = is_id c.in_ok-id.id.now in
    let s = is_some (number_of c.in_ok-size.size.now) in
    let t = is_some (number_of c.in_ok-size.alignment.now) in
    let one_fails : (a && s && t) ≡ false = elim c.else-is_id.branch [
      | else-is_id-via-then-is_id+then-is_number+else-is_number-2 w ↦
          alloc_unaligned a s t (sym w.is_number-then-is_number.ensures ∙ w.if-is_number-2.false)
      | else-is_id-via-then-is_id+else-is_number w ↦
          alloc_unsized a s t (sym w.is_number.ensures ∙ w.if-is_number.false)
      | else-is_id-via-else-is_id w ↦ alloc_unnamed a s t (sym c.is_id.ensures ∙ w.if-is_id.false)
    ] in
    alloc_not c.args.rest.now c.in_ok-id.id.now c.in_ok-id.rest.now c.in_ok-size.size.now
    c.in_ok-size.alignment.now c.in_ok-id.ensures.some c.in_ok-size.ensures.some one_fails
