use Rattle.std.proofs.Common.{◌≡◌, ◌∙◌, ◌<◌, [], length, map, get_or, sym, ap, arith}
use Rattle.std.proofs.lemmas.List.{get_or-map, length-map}
use Rattle.csv.specs.Records.{fields_of}
use Rattle.csv_instance.specs.Columns.{field_of}
use Rattle.csv_instance.specs.Records.{Record}
use Rattle.csv_instance.specs.declared.columns.Column.TheVariants.{Id}
use Rattle.csv_instance.proofs.TableLemmas.{id-limits, faultless}
use Rattle.csv_instance.proofs.table.Table.id.Goals as goal

pub bounds-rows-b : goal.bounds-rows-b
bounds-rows-b c =
    let all = ap length (sym c.self.view_is ∙ c.records.ensures.records) in
    let count = length-map c.records.result.2.now fields_of in
    omega (arith, all, count, c.requires)

pub returns-clause-value : goal.returns-clause-value
returns-clause-value c =
    let h = fields_of c.records.result.0.now in
    let rows = c.records.result.2.now in
    let row = c.index-rows-b.result in
    let is = sym c.self.view_is ∙ c.records.ensures.records in
    let all = ap length is in
    let count = length-map rows fields_of in
    let within : c.args.b < length rows = omega (arith, all, count, c.requires) in
    let field : c.field_under.result.now ≡ field_of h (fields_of row) Id =
    rw c.records.ensures.places at c.field_under.ensures in
    let at_b : get_or (map fields_of rows) c.args.b [] ≡ fields_of row =
    get_or-map fields_of rows c.args.b row [] within ∙ ap fields_of (sym c.index-rows-b.is) in
    rw is
    (field ∙ sym (get_or-map (λ (r : Record). field_of h r Id) (map fields_of rows) c.args.b [] [] (omega arith)
    ∙ ap (λ (r : Record). field_of h r Id) at_b))

pub returns-clause-limit : goal.returns-clause-limit
returns-clause-limit c =
    let h = fields_of c.records.result.0.now in
    let rows = c.records.result.2.now in
    let row = c.index-rows-b.result in
    let all = ap length (sym c.self.view_is ∙ c.records.ensures.records) in
    let count = length-map rows fields_of in
    let within : c.args.b < length rows = omega (arith, all, count, c.requires) in
    let field : c.field_under.result.now ≡ field_of h (fields_of row) Id =
    rw c.records.ensures.places at c.field_under.ensures in
    let at_b : get_or (map fields_of rows) c.args.b [] ≡ fields_of row =
    get_or-map fields_of rows c.args.b row [] within ∙ ap fields_of (sym c.index-rows-b.is) in
    let good =
    faultless h (map fields_of rows) c.self.inside.instance (rw c.records.ensures.records at c.self.invariant) in
    rw (field ∙ ap (λ (r : Record). field_of h r Id) (sym at_b))
    (id-limits h [] (map fields_of rows) c.args.b good.1 (omega arith))
