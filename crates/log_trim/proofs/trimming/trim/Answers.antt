use Rattle.std.proofs.Common.{◌≡◌, arith}
use Rattle.dsa_trim_laws.specs.Trimmed.{trimmed}
use Rattle.dsa_trim_laws.proofs.Needed.{cites_earlier}
use Rattle.dsa_trim_laws.proofs.Trims.{trims_itself}
use Rattle.log_trim.proofs.Ended.{closed_is, end_claim, some_lines, whole_last}
use Rattle.log_trim.proofs.trimming.trim.Goals as goal

pub needed-requires : goal.needed-requires
needed-requires c k line j h i =
    let lt = cites_earlier c.args.instance.now c.args.log.now c.requires k line j h i in omega arith

pub overflow_sub-end : goal.overflow_sub-end
overflow_sub-end c = some_lines c.args.instance.now c.args.log.now c.in_ok-kept.kept c.len-end.result
    (c.trimming.ensures.accepted _ _ c.requires) c.in_ok-kept.ensures.lines c.len-end.ensures.value

pub close-requires-clause-in_log : goal.close-requires-clause-in_log
close-requires-clause-in_log c =
    let some = some_lines c.args.instance.now c.args.log.now c.in_ok-kept.kept c.len-end.result
    (c.trimming.ensures.accepted _ _ c.requires) c.in_ok-kept.ensures.lines c.len-end.ensures.value in
    omega arith

pub unreachable-requires : goal.unreachable-requires
unreachable-requires c =
    let w = whole_last c.args.instance.now c.args.log.now c.in_ok-kept.kept c.len-end.result
    (c.trimming.ensures.accepted _ _ c.requires) c.in_ok-kept.ensures.lines c.len-end.ensures.value in
    c.in-Err.ensures.whole w.0 w.1 w.2

is_trimmed : (c : goal.After-drop-marks-2) → c.in-Ok.trimmed ≡ trimmed c.args.log.now
is_trimmed c = closed_is c.args.instance.now c.args.log.now c.in_ok-kept.kept c.len-end.result c.in-Ok.trimmed
    c.requires c.in_ok-kept.ensures.belongs c.in_ok-kept.ensures.capacity c.in_ok-kept.ensures.lines
    c.len-end.ensures.value c.in-Ok.ensures.closed

pub returns-clause-value : goal.returns-clause-value
returns-clause-value c = rw (is_trimmed c) (c.trimming.ensures.trim _ _ c.requires)

pub returns-clause-end : goal.returns-clause-end
returns-clause-end c l h = end_claim c.args.log.now c.in-Ok.trimmed l (is_trimmed c)
    (λ line q. c.trimming.ensures.end c.args.instance.now c.args.log.now line c.requires q) h

pub returns-clause-cited : goal.returns-clause-cited
returns-clause-cited c =
    rw (is_trimmed c) (λ k. c.trimming.ensures.cited c.args.instance.now c.args.log.now k c.requires)

pub returns-clause-again : goal.returns-clause-again
returns-clause-again c =
    rw (is_trimmed c) (trims_itself c.args.instance.now c.args.log.now c.requires)
