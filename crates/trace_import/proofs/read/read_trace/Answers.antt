use Rattle.trace_import.specs.Lines.{event_in}
use Rattle.trace_import.proofs.ReadLemmas.{failure_read, longer, more_read, none_read}
use Rattle.trace_import.proofs.read.read_trace.Goals as goal

pub loop-line-init : goal.loop-line-init
loop-line-init c = none_read c.args.bytes.now c.new-trace.result c.new-live.result.entries c.new-trace.ensures
    c.new-live.ensures.empty

pub returns-in-Err : goal.returns-in-Err
returns-in-Err c = record {
  read = failure_read c.args.bytes.now c.loop-line.rest.now c.in-Some.line.now c.in-Some.after.now c.loop-line.trace
      c.loop-line.live.entries c.in-Err.failure c.loop-line.invariant c.in-Some.ensures.some c.in-Err.ensures;
}

pub loop-line-preserved : goal.loop-line-preserved
loop-line-preserved c =
    more_read c.args.bytes.now c.loop-line.rest.now c.in-Some.line.now c.in-Some.after.now c.loop-line.trace
    c.in-Ok.longer c.loop-line.live.entries c.with_line.new.live.entries c.loop-line.invariant c.in-Some.ensures.some
    c.in-Some.ensures.shorter c.in-Ok.ensures.0
    (longer c.loop-line.trace (event_in c.in-Some.line.now) c.in-Ok.longer c.in-Ok.ensures.0) c.in-Ok.ensures.1
