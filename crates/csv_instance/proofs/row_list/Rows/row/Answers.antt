use Rattle.std.proofs.Common.{◌<◌, ◌+◌, ap, arith, length}
use Rattle.csv_instance.specs.KeptRows.{records_of}
use Rattle.csv_instance.proofs.KeptLemmas.{kept_limits, kept_value, kept_within}
use Rattle.csv_instance.proofs.row_list.Rows.row.Goals as goal

pub index-requires : goal.index-requires
index-requires c = kept_within c.self.inside c.args.r c.args.self.now c.self.invariant c.self.view_is c.requires

pub returns-clause-value : goal.returns-clause-value
returns-clause-value c =
    let within : c.args.r + 1 < length (records_of c.self.inside) =
    (let all = ap length c.self.view_is in let r = c.requires in omega arith) in
    rw (← c.self.view_is)
    (kept_value c.self.inside c.args.r c.index.result.now c.self.invariant within c.index.ensures)

pub returns-clause-limits : goal.returns-clause-limits
returns-clause-limits c =
    let within : c.args.r + 1 < length (records_of c.self.inside) =
    (let all = ap length c.self.view_is in let r = c.requires in omega arith) in
    kept_limits c.self.inside c.args.r c.index.result.now c.self.invariant within c.index.ensures
