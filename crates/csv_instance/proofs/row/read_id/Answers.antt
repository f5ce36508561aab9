use Rattle.std.proofs.Common.{◌≡◌, ◌∙◌, arith, length, map, refl, sym}
use Rattle.std.proofs.lemmas.List.{length-map}
use Rattle.std.specs.Str.{bytes_eq}
use Rattle.csv.specs.Records.{fields_of}
use Rattle.csv_instance.specs.Columns.{field_of}
use Rattle.csv_instance.specs.Records.{Record}
use Rattle.csv_instance.specs.declared.columns.Column.TheVariants.{Id}
use Rattle.csv_instance.proofs.IdLemmas.{id_fault_by, same-place}
use Rattle.csv_instance.proofs.row.read_id.Goals as goal

pub returns-in-Some : goal.returns-in-Some
returns-in-Some c =
    let h = fields_of c.args.header.now in
    let id = c.field_under-id.result.now in
    let number : c.len-number.result ≡ length (map fields_of c.args.rows.now.items) =
    (let same = length-map c.args.rows.now.items fields_of in let count = c.len-number.ensures in
    omega (arith, c.args.rows.now.ok.0)) in
    let id_is : id ≡ field_of h (fields_of c.args.row.now) Id = rw c.requires.places at c.field_under-id.ensures in
    sym (id_fault_by h (map fields_of c.args.rows.now.items) (fields_of c.args.row.now) _ id _ _ number id_is
    (rw (c.len-columns.ensures, c.len-fields.ensures) at (sym c.in-Some.is ∙ c.check_lengths.ensures)) refl)

pub returns-in-Some-get_index_of : goal.returns-in-Some-get_index_of
returns-in-Some-get_index_of c =
    let h = fields_of c.args.header.now in
    let id = c.field_under-id.result.now in
    let number : c.len-number.result ≡ length (map fields_of c.args.rows.now.items) =
    (let same = length-map c.args.rows.now.items fields_of in let count = c.len-number.ensures in
    omega (arith, c.args.rows.now.ok.0)) in
    let id_is : id ≡ field_of h (fields_of c.args.row.now) Id = rw c.requires.places at c.field_under-id.ensures in
    let same = same-place (bytes_eq id) (λ k. k.items) (λ (e : Record). field_of h e Id) fields_of
    c.args.ids.now.keys c.args.rows.now.items c.requires.ids in
    sym (id_fault_by h (map fields_of c.args.rows.now.items) (fields_of c.args.row.now) _ id _ _ number id_is
    (rw (c.len-columns.ensures, c.len-fields.ensures) at (sym c.in_default.is ∙ c.check_lengths.ensures))
    (sym same ∙ sym c.in-Some-get_index_of.ensures.index))

pub returns-in-Ok : goal.returns-in-Ok
returns-in-Ok c =
    let h = fields_of c.args.header.now in
    let id = c.field_under-id.result.now in
    let number : c.len-number.result ≡ length (map fields_of c.args.rows.now.items) =
    (let same = length-map c.args.rows.now.items fields_of in let count = c.len-number.ensures in
    omega (arith, c.args.rows.now.ok.0)) in
    let id_is : id ≡ field_of h (fields_of c.args.row.now) Id = rw c.requires.places at c.field_under-id.ensures in
    let same = same-place (bytes_eq id) (λ k. k.items) (λ (e : Record). field_of h e Id) fields_of
    c.args.ids.now.keys c.args.rows.now.items c.requires.ids in (
      sym (id_fault_by h (map fields_of c.args.rows.now.items) (fields_of c.args.row.now) _ id _ _ number id_is
          (rw (c.len-columns.ensures, c.len-fields.ensures) at (sym c.in_default.is ∙ c.check_lengths.ensures))
          (sym same ∙ sym c.in_default-get_index_of.ensures.index)),
      c.in-Ok.ensures.items ∙ id_is,
    )
