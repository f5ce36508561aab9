use Rattle.std.proofs.Common.{◌∙◌, sym}
use Rattle.trace_import.proofs.Words.{line_not}
use Rattle.trace_import.proofs.request.read_words.Goals as goal

pub returns-else-eq-2 : goal.returns-else-eq-2
returns-else-eq-2 c =
    line_not c.args.line.now c.in_ok-word.word.now c.in_ok-word.rest.now c.in_ok-word.ensures.some
    (sym c.eq.ensures ∙ c.if-eq.false) (sym c.eq-else-eq.ensures ∙ c.if-eq-2.false)
