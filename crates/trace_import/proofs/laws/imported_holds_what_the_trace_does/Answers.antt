use Rattle.trace_import.proofs.Imported.{imported_traced}
use Rattle.trace_import.proofs.laws.imported_holds_what_the_trace_does.Goals as goal

pub returns : goal.returns
returns c = imported_traced
