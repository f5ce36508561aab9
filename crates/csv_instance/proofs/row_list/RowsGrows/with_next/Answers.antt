use Rattle.std.proofs.Common.{List, ◌∷◌, [], ap}
use Rattle.std.proofs.lemmas.List.{map-append}
use Rattle.csv.specs.Records.{fields_of}
use Rattle.csv_instance.specs.Records.{Record}
use Rattle.csv_instance.proofs.row_list.RowsGrows.with_next.Goals as goal

pub returns-in-Ok-add_row : goal.returns-in-Ok-add_row
returns-in-Ok-add_row c =
    let rows = c.self.inside.rows.items in
    rw (c.in-Ok.is, ← c.self.view_is, c.in-Ok-add_row.ensures.1)
    (ap (λ (t : List Record). fields_of c.self.inside.header ∷ t) (map-append fields_of rows (c.in-Ok.row ∷ [])))
