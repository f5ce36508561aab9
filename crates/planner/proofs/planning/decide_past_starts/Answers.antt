use Rattle.std.proofs.Common.{arith}
use Rattle.planner.proofs.Choosing.{is_below, not_below, search_decides}
use Rattle.planner.proofs.Keeping.{none_given, some_buffers}
use Rattle.planner.proofs.Opening.{opens_at}
use Rattle.planner.proofs.planning.decide_past_starts.Goals as goal

pub returns-in-Layout-clause-value : goal.returns-in-Layout-clause-value
returns-in-Layout-clause-value c =
    search_decides c.args.instance.now c.args.capacity c.in-Layout.offsets.items c.requires.none_within
    (rw c.in-Layout.is at c.in_ok-offsets.ensures.value)

pub returns-in_ok-bracket-in-Spent-clause-value : goal.returns-in_ok-bracket-in-Spent-clause-value
returns-in_ok-bracket-in-Spent-clause-value c =
    opens_at c.args.instance.now c.args.capacity c.args.steps c.in_ok-bracket-in-Spent.bracket
    c.len-count.ensures.buffers c.in_ok-bracket-in-Spent.ensures c.requires.none_within
    (not_below c.in_ok-log.field-0 c.args.capacity _ c.in_ok-log.ensures.some c.in_default.is)
    (rw c.in-Spent.is at c.in_ok-offsets.ensures.value)

pub returns-in-Some-clause-steps : goal.returns-in-Some-clause-steps
returns-in-Some-clause-steps c le =
    let lt = is_below c.in_ok-log.field-0 c.in-Some.log c.args.capacity _ c.in_ok-log.ensures.some c.in-Some.is in
    absurd (omega arith)

pub returns-in-Layout-clause-steps : goal.returns-in-Layout-clause-steps
returns-in-Layout-clause-steps c le =
    rw c.in-Layout.is at
    (c.in_ok-offsets.ensures.steps (some_buffers c.args.instance.now c.args.capacity c.requires.none_within))

pub returns-in-Refuted-clause-steps : goal.returns-in-Refuted-clause-steps
returns-in-Refuted-clause-steps c le =
    rw c.in-Refuted.is at
    (c.in_ok-offsets.ensures.steps (some_buffers c.args.instance.now c.args.capacity c.requires.none_within))

pub returns-in_ok-bracket-in-Spent-clause-steps : goal.returns-in_ok-bracket-in-Spent-clause-steps
returns-in_ok-bracket-in-Spent-clause-steps c le = none_given c.args.steps
