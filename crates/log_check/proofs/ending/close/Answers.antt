use Rattle.std.proofs.Common.{◌∙◌, sym, subst}
use Rattle.dsa_terms.specs.Claims.{IsWhole}
use Rattle.refute_log.specs.Lines.{line_value}
use Rattle.log_check.proofs.Ends.{end_says, is_whole}
use Rattle.log_check.proofs.ending.close.Goals as goal

pub above_floor-requires : goal.above_floor-requires
above_floor-requires c = record {
  in_range = rw c.claim.ensures
      (c.requires.legal c.args.end (line_value c.line.result.now) c.line.ensures.value).claim.in_range;
}

pub returns-in-Some-clause-fault : goal.returns-in-Some-clause-fault
returns-in-Some-clause-fault c lines e = end_says c.args.instance.now c.args.end lines c.args.log.lines
    (line_value c.line.result.now) c.claim.result.now e c.line.ensures.value c.claim.ensures
    _ (sym c.in-Some.is ∙ c.above_floor.ensures)

pub unreachable-requires : goal.unreachable-requires
unreachable-requires c = c.in-Err.ensures.whole (line_value c.line.result.now) c.line.ensures.value
    (subst (IsWhole c.args.instance.now) c.claim.ensures
    (is_whole c.args.instance.now c.claim.result.now (sym c.in_default.is ∙ c.above_floor.ensures)))

pub returns-clause-fault : goal.returns-clause-fault
returns-clause-fault c lines e = end_says c.args.instance.now c.args.end lines c.args.log.lines
    (line_value c.line.result.now) c.claim.result.now e c.line.ensures.value c.claim.ensures
    _ (sym c.in_default.is ∙ c.above_floor.ensures)
