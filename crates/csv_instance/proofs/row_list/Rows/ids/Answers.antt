use Rattle.std.proofs.Common.{◌∙◌, ap, arith, length}
use Rattle.std.proofs.lemmas.List.{length-map}
use Rattle.csv.specs.Records.{Row, fields_of}
use Rattle.csv_instance.specs.Columns.{field_of}
use Rattle.csv_instance.specs.Records.{Record}
use Rattle.csv_instance.specs.declared.columns.Column.TheVariants.{Id}
use Rattle.csv_instance.proofs.IdLemmas.{map-map}
use Rattle.csv_instance.proofs.row_list.Rows.ids.Goals as goal

pub returns-clause-ids : goal.returns-clause-ids
returns-clause-ids c =
    rw (← c.self.view_is)
    (c.self.invariant.ids
    ∙ map-map (λ (row : Record). field_of
    (fields_of c.self.inside.header) row Id) fields_of c.self.inside.rows.items)

pub returns-clause-few : goal.returns-clause-few
returns-clause-few c =
    let i = c.self.invariant in
    let same = ap length i.ids in
    let keys = length-map c.self.inside.ids.keys (λ k. k.items) in
    let rows = length-map c.self.inside.rows.items
    (λ (row : Row). field_of (fields_of c.self.inside.header) (fields_of row) Id) in
    omega (arith, i.few, same, keys, rows)
