use Rattle.csv_instance.proofs.RowLemmas.{rows-good}
use Rattle.csv_instance.proofs.row_list.Rows.records.Goals as goal

pub returns-clause-parsed : goal.returns-clause-parsed
returns-clause-parsed c =
    let i = c.self.invariant in
    rw (← c.self.view_is) (rows-good _ _ i.header_good i.rows_good)
