use Rattle.std.proofs.Common.{◌-◌, ◌∙◌, arith}
use Rattle.log_text.proofs.WrittenSecond.{first_put, next_put}
use Rattle.log_text.proofs.write_second.put_line_of.Goals as goal

pub returns-then-k-eq0 : goal.returns-then-k-eq0
returns-then-k-eq0 c = first_put c.args.log.now.lines c.args.k _ _ _ _ c.if-k-eq0.true c.line-line.ensures.value
    c.put_line.ensures

pub returns : goal.returns
returns c = next_put c.args.log.now.lines (c.args.k - 1) c.args.k _ _ _ _ _ c.claim.result.now c.claim-2.result.now _
    (omega arith) c.line.ensures.value
    c.line-line.ensures.value c.claim.ensures c.claim-2.ensures
    (c.as_slice.ensures.value ∙ c.in_ok-bytes.ensures) c.put_line_as.ensures
