use Rattle.std.proofs.Common.{◌∙◌, sym}
use Rattle.trace_import.proofs.Words.{free_not, free_written}
use Rattle.trace_import.proofs.request.free_words.Goals as goal

pub returns-then-is_id : goal.returns-then-is_id
returns-then-is_id c = free_written c.args.id.now (sym c.is_id.ensures ∙ c.if-is_id.true)

pub returns-else-is_id : goal.returns-else-is_id
returns-else-is_id c = free_not c.args.id.now (sym c.is_id.ensures ∙ c.if-is_id.false)
