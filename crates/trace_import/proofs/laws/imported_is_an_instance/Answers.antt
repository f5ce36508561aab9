use Rattle.trace_import.proofs.Imported.{imported_sound}
use Rattle.trace_import.proofs.laws.imported_is_an_instance.Goals as goal

pub returns : goal.returns
returns c = imported_sound
