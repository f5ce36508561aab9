use Rattle.std.proofs.Common.{◌∙◌, sym}
use Rattle.trace_import.proofs.Words.{id_from}
use Rattle.trace_import.proofs.request.is_id.Goals as goal

pub returns : goal.returns
returns c = c.are_id_bytes.ensures
    ∙ id_from c.args.bytes.now (sym c.is_empty.ensures ∙ c.if-is_empty.false) c.if-bytes-gt-ID_LIMIT.false
