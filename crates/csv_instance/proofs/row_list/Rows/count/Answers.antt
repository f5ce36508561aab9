use Rattle.std.proofs.Common.{ap, arith, length}
use Rattle.std.proofs.lemmas.List.{length-map}
use Rattle.csv.specs.Records.{fields_of}
use Rattle.csv_instance.proofs.KeptLemmas.{kept_count, kept_few}
use Rattle.csv_instance.proofs.row_list.Rows.count.Goals as goal

pub overflow_cast-result : goal.overflow_cast-result
overflow_cast-result c = let few = kept_few c.self.inside c.self.invariant in omega (arith, c.len.ensures)

pub returns-clause-value : goal.returns-clause-value
returns-clause-value c =
    let count = kept_count c.self.inside c.self.invariant in
    let all = ap length c.self.view_is in
    omega (arith, c.self.inside.values.ok.0)

pub returns-clause-limit : goal.returns-clause-limit
returns-clause-limit c =
    let count = kept_count c.self.inside c.self.invariant in
    let rows = length-map c.self.inside.rows.items fields_of in
    omega (arith, c.self.inside.values.ok.0, c.self.invariant.few)
