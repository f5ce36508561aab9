use Rattle.column_report.proofs.Meanings.{as_read}
use Rattle.column_report.proofs.law.meanings_are_as_read.Goals as goal

pub returns : goal.returns
returns c = as_read
