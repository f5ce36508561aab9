use Rattle.csv_instance.proofs.table.Table.rows.Goals as goal

pub returns-clause-parsed : goal.returns-clause-parsed
returns-clause-parsed c = (c.self.inside.instance, rw (← c.self.view_is) c.self.invariant)
