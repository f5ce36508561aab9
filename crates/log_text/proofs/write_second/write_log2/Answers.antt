use Rattle.std.proofs.Common.{arith}
use Rattle.log_text.specs.Spellings.{spelled_text}
use Rattle.log_text.proofs.Left.{put_next}
use Rattle.log_text.proofs.WrittenSecond.{says_back, whole_put}
use Rattle.log_text.proofs.write_second.write_log2.Goals as goal

pub loop-k-preserved : goal.loop-k-preserved
loop-k-preserved c = let t = c.in_ok-put_line_of.ensures in
    put_next spelled_text _ c.loop-k.k t.0 c.loop-k.text.items c.put_line_of.new.text.items _ t.1 t.2 c.loop-k.invariant

pub returns-clause-value : goal.returns-clause-value
returns-clause-value c = whole_put c.args.log.now c.loop-k.k _ _ _ (omega arith) c.loop-k.invariant
    c.in_ok-put_end.ensures c.end.ensures.value

pub returns-clause-read_back : goal.returns-clause-read_back
returns-clause-read_back c = says_back _ c.args.log.now
    (whole_put c.args.log.now c.loop-k.k _ _ _
    (omega arith) c.loop-k.invariant c.in_ok-put_end.ensures c.end.ensures.value)
    (omega arith) (omega arith) c.end.ensures.kept (omega arith)
