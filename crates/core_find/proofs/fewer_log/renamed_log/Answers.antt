use Rattle.std.proofs.Common.{slice_index}
use Rattle.refute_log.specs.Lines.{line_value}
use Rattle.core_find.proofs.Carrying.{next_legal, next_rises, one_renamed, renamed_within, whole_renamed_log}
use Rattle.core_find.proofs.fewer_log.renamed_log.Goals as goal

pub renamed_line-requires-clause-rises : goal.renamed_line-requires-clause-rises
renamed_line-requires-clause-rises c =
    next_rises c.args.instance.now c.args.log.now (slice_index c.args.numbers.now) _ c.loop-k.k
    (line_value c.line.result.now) c.requires.belongs c.line.ensures.value

pub push_legal-requires-clause-within : goal.push_legal-requires-clause-within
push_legal-requires-clause-within c =
    rw c.in_ok-line.ensures
    (renamed_within c.args.numbers.now (line_value c.line.result.now) c.requires.numbers c.line.ensures.kept.within)

pub push_legal-requires-clause-legal : goal.push_legal-requires-clause-legal
push_legal-requires-clause-legal c =
    rw c.in_ok-line.ensures
    (next_legal c.args.instance.now c.args.log.now (slice_index c.args.numbers.now) _ c.loop-k.k c.loop-k.renamed
    (line_value c.line.result.now) c.requires.belongs c.loop-k.invariant c.line.ensures.value)

pub loop-k-preserved : goal.loop-k-preserved
loop-k-preserved c =
    one_renamed c.args.instance.now c.args.log.now (slice_index c.args.numbers.now) c.loop-k.k c.loop-k.renamed
    c.push_legal.new.self (line_value c.line.result.now) (line_value c.in_ok-line.line) c.loop-k.invariant
    c.line.ensures.value c.in_ok-line.ensures c.in_ok-push_legal.ensures.belongs c.in_ok-push_legal.ensures.appended

pub returns-clause-value : goal.returns-clause-value
returns-clause-value c =
    whole_renamed_log c.args.instance.now c.args.log.now (slice_index c.args.numbers.now) c.loop-k.k c.loop-k.renamed
    (rw (← c.len-k-end.ensures.value) c.loop-k-test.false) c.loop-k.invariant
