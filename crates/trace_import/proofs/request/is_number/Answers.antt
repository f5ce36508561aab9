use Rattle.std.proofs.Common.{◌∙◌, sym}
use Rattle.trace_import.proofs.Words.{number_from}
use Rattle.trace_import.proofs.request.is_number.Goals as goal

pub returns : goal.returns
returns c = c.are_digits.ensures
    ∙ number_from c.args.bytes.now (sym c.is_empty.ensures ∙ c.if-is_empty.false) c.if-bytes-gt-DIGIT_LIMIT.false
