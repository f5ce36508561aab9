use Rattle.log_check.proofs.AcceptedLogs.{accepted_is_found, fault_is_found, faulty_is_not_accepted}
use Rattle.log_check.proofs.checker.check.Goals as goal

pub returns-clause-accepted : goal.returns-clause-accepted
returns-clause-accepted c = faulty_is_not_accepted c.args.instance.now c.args.raw c.closed_log.result
    c.closed_log.ensures.accepted c.closed_log.ensures.same

pub returns-clause-complete : goal.returns-clause-complete
returns-clause-complete c = accepted_is_found c.args.instance.now c.args.raw c.closed_log.result
    c.closed_log.ensures.accepted c.closed_log.ensures.same

pub returns-clause-cause : goal.returns-clause-cause
returns-clause-cause c = fault_is_found c.args.instance.now c.args.raw c.closed_log.result
    c.closed_log.ensures.accepted c.closed_log.ensures.same
