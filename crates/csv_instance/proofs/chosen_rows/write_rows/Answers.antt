use Rattle.std.proofs.Common.{IfOk, ◌≡◌, ◌∙◌, [], length, sym, ap, arith}
use Rattle.std.proofs.lemmas.List.{length-map}
use Rattle.csv.specs.Records.{fields_of}
use Rattle.csv_instance.specs.Chosen.{chosen_text}
use Rattle.csv_instance.proofs.FailLemmas.{IfOk-map}
use Rattle.csv_instance.proofs.SomeBack.{chosen_back, chosen_parse}
use Rattle.csv_instance.proofs.chosen_rows.write_rows.Goals as goal

pub write_members-requires : goal.write_members-requires
write_members-requires c = λ p d h.
    let all = ap length (sym c.rows.ensures.rows ∙ c.records.ensures.records) in
    let n = length-map c.records.result.2.now fields_of in
    let least = c.requires.in_range p d h in
    omega (arith, all, n, least)

pub returns-clause-text : goal.returns-clause-text
returns-clause-text c =
    let wrote = c.in_ok-write_members.ensures _ (c.in_ok-write_record.ensures [] c.text_writer-writer.ensures) in
    rw (sym c.rows.ensures.rows ∙ c.records.ensures.records) (c.written_text.ensures _ wrote)

pub returns-clause-back : goal.returns-clause-back
returns-clause-back c =
    let wrote = c.in_ok-write_members.ensures _ (c.in_ok-write_record.ensures [] c.text_writer-writer.ensures) in
    let text : IfOk c.written_text.result (λ made. made.items ≡ chosen_text c.args.table.now c.args.members.now) =
    rw (sym c.rows.ensures.rows ∙ c.records.ensures.records) (c.written_text.ensures _ wrote) in
    IfOk-map c.written_text.result
    (λ made is. rw is (chosen_back c.args.table.now c.rows.ensures.parsed.0 c.args.members.now
    c.rows.ensures.parsed.1 c.requires.in_range)) text

pub returns-clause-parsed : goal.returns-clause-parsed
returns-clause-parsed c =
    let wrote = c.in_ok-write_members.ensures _ (c.in_ok-write_record.ensures [] c.text_writer-writer.ensures) in
    let text : IfOk c.written_text.result (λ made. made.items ≡ chosen_text c.args.table.now c.args.members.now) =
    rw (sym c.rows.ensures.rows ∙ c.records.ensures.records) (c.written_text.ensures _ wrote) in
    IfOk-map c.written_text.result
    (λ made is I e. rw is (chosen_parse c.args.table.now I c.args.members.now e c.requires.rises
    c.requires.in_range)) text
