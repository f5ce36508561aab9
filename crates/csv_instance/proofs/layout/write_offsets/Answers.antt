use Rattle.std.proofs.Common.{◌≡◌, ◌<◌, ◌+◌, ◌++◌, ◌∷◌, ◌∙◌, [], ℕ, List, length, map, drop, get_or, sym, ap, append_assoc, arith}
use Rattle.std.proofs.lemmas.Grind.{common_steps}
use Rattle.std.specs.Fmt.{decimal}
use Rattle.csv.specs.Records.{fields_of}
use Rattle.csv.specs.Writing.{default_writer, row_text}
use Rattle.csv_instance.specs.Layout.{rows_with, text_of}
use Rattle.csv_instance.proofs.LayoutLemmas.{rows_text-at}
use Rattle.csv_instance.proofs.layout.write_offsets.Goals as goal

pub loop-place-preserved : goal.loop-place-preserved
loop-place-preserved c = λ before from.
    let (text, wrote, is) = c.loop-place.invariant before from in
    let rows = c.args.rows.now in
    let offsets = c.args.offsets.now in
    let p = c.loop-place.place in
    let more = text_of (rows_with (drop (p + 1) (map fields_of rows)) (drop (p + 1) offsets)) in
    let within : p < length rows = omega arith in
    let given : p < length offsets = omega (arith, c.requires) in
    let last : c.as_bytes.result.now ≡ decimal (get_or offsets p 0) = c.as_bytes.ensures.value
    ∙ c.format-offset.ensures.text in
    let row : List ℕ = row_text default_writer (fields_of c.index-rows-place.result ++ c.as_bytes.result.now ∷ []) in
    let next : text_of (rows_with (drop p (map fields_of rows)) (drop p offsets)) ≡ row ++ more =
    rows_text-at fields_of rows offsets p c.index-rows-place.result within given c.index-rows-place.is
    ∙ ap (λ (t : List ℕ). row_text default_writer (fields_of c.index-rows-place.result ++ t ∷ []) ++ more)
    (sym last) in (
      text ++ row,
      c.in_ok-write_with.ensures text wrote,
      is ∙ ap (λ (t : List ℕ). text ++ t) next
          ∙ sym (append_assoc text row more),
    )

pub returns : goal.returns
returns c = λ before from.
    let (text, wrote, is) = c.loop-place.invariant before from in
    let all : before ++ text_of (rows_with (map fields_of c.args.rows.now) c.args.offsets.now) ≡ text =
    grind (arith, common_steps) in
    rw all wrote
