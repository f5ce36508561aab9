use Rattle.std.proofs.Common.{IfOk, ◌≡◌, ◌+◌, ◌∙◌, [], length, map, sym, ap, add-one, arith}
use Rattle.std.proofs.lemmas.List.{length-map}
use Rattle.csv.specs.Records.{fields_of}
use Rattle.csv_instance.specs.Layout.{layout_text}
use Rattle.csv_instance.proofs.FailLemmas.{IfOk-map}
use Rattle.csv_instance.proofs.LayoutLaw.{layout-back}
use Rattle.csv_instance.proofs.layout.write_layout.Goals as goal

pub write_offsets-requires : goal.write_offsets-requires
write_offsets-requires c =
    let rows = c.records.result.2.now in
    let count : length c.args.table.now ≡ length rows + 1 =
    ap length (sym c.rows.ensures.rows ∙ c.records.ensures.records)
    ∙ sym (add-one (length (map fields_of rows))) ∙ ap (λ n. n + 1) (length-map rows fields_of) in
    omega (arith, count, c.requires)

pub returns-clause-text : goal.returns-clause-text
returns-clause-text c =
    let wrote = c.in_ok-write_offsets.ensures _ (c.in_ok-write_with.ensures [] c.text_writer-writer.ensures) in
    rw (sym c.rows.ensures.rows ∙ c.records.ensures.records)
    (rw c.column_name.ensures at (c.written_text.ensures _ wrote))

pub returns-clause-back : goal.returns-clause-back
returns-clause-back c =
    let wrote = c.in_ok-write_offsets.ensures _ (c.in_ok-write_with.ensures [] c.text_writer-writer.ensures) in
    let text : IfOk c.written_text.result (λ made. made.items ≡ layout_text c.args.table.now c.args.offsets.now) =
    rw (sym c.rows.ensures.rows ∙ c.records.ensures.records)
    (rw c.column_name.ensures at (c.written_text.ensures _ wrote)) in
    IfOk-map c.written_text.result
    (λ made is small. rw is (layout-back c.args.table.now c.rows.ensures.parsed.0 c.args.offsets.now
    c.rows.ensures.parsed.1 small c.requires)) text
