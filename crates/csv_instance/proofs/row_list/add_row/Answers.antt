use Rattle.std.proofs.Common.{List, ◌≡◌, ◌++◌, ◌∷◌, ◌∙◌, [], length, map, sym, None, Some, arith, true, false, refl, rules, Err, length-append, Vec, vec_len}
use Rattle.std.proofs.lemmas.List.{length-map, map-append}
use Rattle.std.proofs.lemmas.List.Elements.{All-append, All-nil}
use Rattle.std.specs.List.{list_any}
use Rattle.std.specs.Result.{is_ok}
use Rattle.csv.specs.Records.{Row, fields_of}
use Rattle.std.specs.Str.{bytes_eq}
use Rattle.csv_instance.specs.Columns.{field_of}
use Rattle.csv_instance.specs.Records.{Record}
use Rattle.csv_instance.specs.Parse.{row_buffer}
use Rattle.csv_instance.specs.RowSteps.{form_fault, id_fault}
use Rattle.csv_instance.specs.Rows.{AreKeptValues, parse_rows, row_form_fault, value_of}
use Rattle.csv_instance.specs.declared.fault.InstanceFault.{InstanceFault}
use Rattle.csv_instance.proofs.FailLemmas.{IfFault-map}
use Rattle.csv_instance.specs.declared.columns.Column.TheVariants.{Id}
use Rattle.csv_instance.proofs.IdLemmas.{ids-more, new_id, none_any, same-place}
use Rattle.csv_instance.proofs.RowLemmas.{rows-fault, form-more}
use Rattle.csv_instance.proofs.RowStepLemmas.{form-content, form-id}
use Rattle.csv_instance.proofs.Short.{all_cons}
use Rattle.csv_instance.proofs.TableLemmas.{room}
use Rattle.csv_instance.proofs.row_list.add_row.Goals as goal

vec_items : {A B : Type 0} (v : Vec A B) → vec_len v ≡ length v.items
vec_items v = search rules

pub read_id-requires-clause-few : goal.read_id-requires-clause-few
read_id-requires-clause-few c = c.requires.kept.few

pub returns-in-Err : goal.returns-in-Err
returns-in-Err c =
    let i = c.requires.kept in
    let h = fields_of c.args.header.now in
    let rows = map fields_of c.args.rows.now.items in
    let row = fields_of c.args.row in
    IfFault-map (λ (f : InstanceFault). id_fault h rows row ≡ Some f)
    (λ (f : InstanceFault). (rest : List Record) → parse_rows ((h ∷ rows) ++ row ∷ rest) ≡ Err f) c.in-Err.failure
    (λ f bad rest. (rows-fault h rows row rest f i.header_good i.rows_good (form-id h rows row f bad)))
    c.in-Err.ensures

pub returns-in-Err-read_values : goal.returns-in-Err-read_values
returns-in-Err-read_values c =
    let i = c.requires.kept in
    let h = fields_of c.args.header.now in
    let rows = map fields_of c.args.rows.now.items in
    let row = fields_of c.args.row in
    let id_good : id_fault h rows row ≡ None = c.in-Ok.ensures.0 in
    let number : length rows ≡ c.len-number.result = length-map c.args.rows.now.items fields_of
    ∙ sym (c.len-number.ensures ∙ vec_items c.args.rows.now) in
    IfFault-map (λ (f : InstanceFault). form_fault h c.len-number.result row ≡ Some f)
    (λ (f : InstanceFault). (rest : List Record) → parse_rows ((h ∷ rows) ++ row ∷ rest) ≡ Err f)
    c.in-Err-read_values.failure
    (λ f bad rest. (rows-fault h rows row rest f i.header_good i.rows_good
    (form-content h rows row (Some f) id_good (rw number bad))))
    (c.in-Err-read_values.ensures.value h i.places)

pub returns-in-Ok-keep : goal.returns-in-Ok-keep
returns-in-Ok-keep c =
    let i = c.requires.kept in
    let h = fields_of c.args.header.now in
    let rows = map fields_of c.args.rows.now.items in
    let row = fields_of c.args.row in
    let id_good : id_fault h rows row ≡ None = c.in-Ok.ensures.0 in
    let number : length rows ≡ c.len-number.result = length-map c.args.rows.now.items fields_of
    ∙ sym (c.len-number.ensures ∙ vec_items c.args.rows.now) in
    let good : form_fault h (length rows) row ≡ None = rw number ((c.in-Ok-read_values.ensures.value h i.places).0) in
    let row_good : row_form_fault h rows row ≡ None = form-content h rows row None id_good good in
    let items : c.keep.new.rows.items ≡ c.args.rows.now.items ++ c.args.row ∷ [] =
    c.in-Ok-keep.ensures.rows in
    let rows_are : map fields_of c.keep.new.rows.items ≡ rows ++ row ∷ [] =
    rw items (map-append fields_of c.args.rows.now.items (c.args.row ∷ [])) in
    let buffer = λ (r : Row). row_buffer h (fields_of r) in
    let valued : is_ok c.push.result ≡ true = search rules in
    let values : c.push.new.self.items ≡ c.args.values.now.items ++ c.in-Ok-read_values.value ∷ [] =
    rw valued at c.push.ensures.items in
    let id_is : c.in-Ok.id.items ≡ field_of h row Id = c.in-Ok.ensures.1 in
    let fresh : list_any (λ k. bytes_eq c.in-Ok.id.items k.items) c.args.ids.now.keys ≡ false =
    none_any _ c.args.ids.now.keys
    (same-place (bytes_eq c.in-Ok.id.items) (λ k. k.items)
    (λ (e : Record). field_of h e Id) fields_of c.args.ids.now.keys c.args.rows.now.items i.ids
    ∙ rw id_is (new_id h rows row id_good)) in (
      record {
        places = i.places;
        header_good = i.header_good;
        rows_good = rw (rows_are) (form-more h rows row i.rows_good row_good);
        few = rw items (omega (
          arith,
          length-append c.args.rows.now.items (c.args.row ∷ []),
          i.few,
          room h rows row id_good,
          length-map c.args.rows.now.items fields_of,
        ));
        values = rw (
          items,
          values,
          map-append buffer c.args.rows.now.items (c.args.row ∷ []),
          map-append value_of c.args.values.now.items (c.in-Ok-read_values.value ∷ []),
        )
            (rw (i.values, (c.in-Ok-read_values.ensures.value h i.places).1) refl);
        limits = rw values (All-append AreKeptValues c.args.values.now.items (c.in-Ok-read_values.value ∷ [])
            i.limits
            (all_cons AreKeptValues c.in-Ok-read_values.value [] c.in-Ok-read_values.ensures.limits
            (All-nil AreKeptValues)));
        ids = rw items (ids-more (λ k. k.items)
            (λ (r : Row). field_of h
            (fields_of r) Id) c.args.ids.now.keys c.args.rows.now.items c.in-Ok.id c.args.row i.ids fresh
            id_is c.keep.new.ids.keys c.in-Ok-keep.ensures.ids);
      },
      items,
    )
