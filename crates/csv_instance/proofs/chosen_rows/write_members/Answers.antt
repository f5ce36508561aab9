use Rattle.std.proofs.Common.{◌≡◌, ◌++◌, ◌∙◌, ◌<◌, ◌+◌, ℕ, List, [], length, map, drop, slice_index, slice_index_or, sym, ap, append_assoc, arith}
use Rattle.std.proofs.lemmas.List.{get_or-map}
use Rattle.std.proofs.lemmas.Grind.{common_steps}
use Rattle.csv.specs.Records.{fields_of}
use Rattle.csv.specs.Writing.{default_writer, row_text}
use Rattle.csv_instance.specs.Chosen.{rows_at}
use Rattle.csv_instance.specs.Layout.{text_of}
use Rattle.csv_instance.specs.Records.{Record}
use Rattle.csv_instance.proofs.SomeBack.{chosen_text-at}
use Rattle.csv_instance.proofs.chosen_rows.write_members.Goals as goal

pub loop-member-preserved : goal.loop-member-preserved
loop-member-preserved c = λ before from.
    let (text, wrote, is) = c.loop-member.invariant before from in
    let rows = c.args.rows.now in
    let members = c.args.members.now in
    let p = c.loop-member.member-index in
    let more = text_of (rows_at (map fields_of rows) (drop (p + 1) members)) in
    let within : slice_index members p < length rows = c.requires p 0 c.loop-member-test.true in
    let here : slice_index_or (map fields_of rows) (slice_index members p) [] ≡ fields_of c.index-rows-member.result =
    get_or-map fields_of rows (slice_index members p) c.index-rows-member.result [] within
    ∙ ap fields_of (sym c.index-rows-member.is) in
    let row : List ℕ = row_text default_writer (fields_of c.index-rows-member.result) in
    let next : text_of (rows_at (map fields_of rows) (drop p members)) ≡ row ++ more =
    chosen_text-at (map fields_of rows) members p c.loop-member-test.true
    ∙ ap (λ (r : Record). row_text default_writer r ++ more) here in (
      text ++ row,
      c.in_ok-write_record.ensures text wrote,
      is ∙ ap (λ (t : List ℕ). text ++ t) next ∙ sym (append_assoc text row more),
    )

pub returns : goal.returns
returns c = λ before from.
    let (text, wrote, is) = c.loop-member.invariant before from in
    let all : before ++ text_of (rows_at (map fields_of c.args.rows.now) c.args.members.now) ≡ text =
    grind (arith, common_steps) in
    rw all wrote
