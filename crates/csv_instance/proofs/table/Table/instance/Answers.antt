use Rattle.csv_instance.proofs.OffsetFacts.{buffers-count}
use Rattle.csv_instance.proofs.table.Table.instance.Goals as goal

pub returns-clause-count : goal.returns-clause-count
returns-clause-count c =
    rw (← c.self.view_is) (buffers-count c.self.inside.rows c.self.inside.instance c.self.invariant)
