use Rattle.log_check.proofs.TakenUpTo.{fault_in_rest, next_in_front}
use Rattle.log_check.proofs.lines.log_of.Goals as goal

pub loop-next-preserved : goal.loop-next-preserved
loop-next-preserved c = next_in_front c.args.instance.now c.args.capacity c.args.lines.items _ _ c.loop-next.log
    c.push_line.new.log c.in-Some.next c.loop-next.invariant c.in-Some.ensures.steps.0 c.in-Ok.ensures.reason
    c.in-Ok.ensures.appended c.in-Ok.ensures.text c.in-Ok.ensures.belongs

pub returns-in-Err-Fault-clause-fault : goal.returns-in-Err-Fault-clause-fault
returns-in-Err-Fault-clause-fault c =
    let r = rw c.in-Err-Fault.field-0-is at c.in-Err-Fault.ensures.reason in
    rw c.in-Err-Fault.reason-is (fault_in_rest c.args.instance.now c.args.capacity c.args.lines.items _ _
    c.loop-next.log c.in-Some.next c.in-Err-Fault.reason c.len-line.result c.loop-next.invariant
    c.in-Some.ensures.steps.0 c.len-line.ensures.value r)
