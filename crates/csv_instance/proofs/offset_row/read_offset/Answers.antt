use Rattle.std.proofs.Common.{◌≡◌, ◌∙◌, sym, length, rules}
use Rattle.csv.specs.Records.{fields_of}
use Rattle.csv_instance.proofs.OffsetRows.{count_is, row-again, row-fine, row-number, row-unknown}
use Rattle.csv_instance.proofs.TableLemmas.{none_left}
use Rattle.csv_instance.proofs.offset_row.read_offset.Goals as goal

pub returns-then-not-contains : goal.returns-then-not-contains
returns-then-not-contains c = λ header before a are.
    let r = fields_of c.args.row.now in
    let even : length r ≡ c.args.columns.now.count = search rules in
    let n : c.len-number.result ≡ length before = c.len-number.ensures.len
    ∙ count_is header before c.args.found.now.entries are in
    rw n (row-unknown c.args.ids.now.keys header before r c.args.columns.now c.args.found.now.entries a are even
    (rw c.field_at-id.ensures at (sym c.contains.ensures ∙ c.if-not-contains.true)))

pub returns-in-Some : goal.returns-in-Some
returns-in-Some c = λ header before a are.
    let r = fields_of c.args.row.now in
    let even : length r ≡ c.args.columns.now.count = search rules in
    let n : c.len-number.result ≡ length before = c.len-number.ensures.len
    ∙ count_is header before c.args.found.now.entries are in
    let known = rw c.field_at-id.ensures at (sym c.contains.ensures ∙ c.if-not-contains.false) in
    let place = rw c.field_at-id.ensures at (sym c.in-Some.ensures.index) in
    rw n (row-again c.args.ids.now.keys header before r c.args.columns.now c.args.found.now.entries a are even known
    c.in-Some.earlier place)

pub returns-in-Some-parse_number : goal.returns-in-Some-parse_number
returns-in-Some-parse_number c = λ header before a are.
    let r = fields_of c.args.row.now in
    let even : length r ≡ c.args.columns.now.count = search rules in
    let known = rw c.field_at-id.ensures at (sym c.contains.ensures ∙ c.if-not-contains.false) in
    let place = rw c.field_at-id.ensures at (sym c.get_index_of.ensures.index ∙ none_left _ c.in_default.not-Some) in
    let value = rw c.field_at.ensures at (sym c.in-Some-parse_number.ensures.number) in
    row-fine c.args.ids.now.keys header before r c.args.columns.now c.args.found.now.entries a are even known
    c.in-Some-parse_number.offset place value

pub returns-in-None : goal.returns-in-None
returns-in-None c = λ header before a are.
    let r = fields_of c.args.row.now in
    let even : length r ≡ c.args.columns.now.count = search rules in
    let n : c.len-number.result ≡ length before = c.len-number.ensures.len
    ∙ count_is header before c.args.found.now.entries are in
    let known = rw c.field_at-id.ensures at (sym c.contains.ensures ∙ c.if-not-contains.false) in
    let place = rw c.field_at-id.ensures at (sym c.get_index_of.ensures.index ∙ none_left _ c.in_default.not-Some) in
    let value = rw c.field_at.ensures at (sym c.in-None.ensures.number) in
    rw n (row-number c.args.ids.now.keys header before r c.args.columns.now c.args.found.now.entries a are even known
    place value)
