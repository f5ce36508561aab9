use Rattle.std.proofs.Common.{[]}
use Rattle.trace_import.proofs.importing.start.Goals as goal

pub returns : goal.returns
returns c = c.in_ok-write_fields.ensures [] c.text_writer-writer.ensures
