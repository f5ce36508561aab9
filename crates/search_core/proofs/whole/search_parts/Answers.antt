use Rattle.std.proofs.Common.{◌+◌, ◌∙◌, ◌≤◌, length, refl, arith}
use Rattle.search_core.proofs.Words.{whole_work}
use Rattle.search_core.proofs.Counting.{more_by_after}
use Rattle.search_core.proofs.Joining.{all_joined, all_taken, all_work, is_part, joining_next, part_refuted, part_work}
use Rattle.search_core.proofs.whole.search_parts.Goals.{After-search_part}
use Rattle.search_core.proofs.whole.search_parts.Goals as goal

pub search_part-requires-clause-part : goal.search_part-requires-clause-part
search_part-requires-clause-part c =
    rw c.members.ensures.value (is_part c.args.task.now.instance.now c.args.task.now.capacity c.args.parts.now
    c.loop-p.p c.requires.parts (omega arith))

-- how many units are used once the next part is searched
used : (c : After-search_part) → c.search_part.new.meter.used ≤ c.args.meter.now.used
    + whole_work c.args.task.now.instance.now c.args.task.now.capacity
used c =
    let n = part_work _ _ _ _ _ _ _ c.requires.parts (omega arith) c.loop-p.invariant in
    let u = rw c.members.ensures.value at c.search_part.ensures.used in
    omega (arith, n, u)

pub returns-in_err-extend_from_slice-in-Ok-Seats-clause-used :
    goal.returns-in_err-extend_from_slice-in-Ok-Seats-clause-used
returns-in_err-extend_from_slice-in-Ok-Seats-clause-used c =
    used (goal.at.returns-in_err-extend_from_slice-in-Ok-Seats-clause-used c).After-search_part

pub returns-in-Ok-Refuted-clause-used : goal.returns-in-Ok-Refuted-clause-used
returns-in-Ok-Refuted-clause-used c = used (goal.at.returns-in-Ok-Refuted-clause-used c).After-search_part

pub returns-in-Err-Fault-clause-used : goal.returns-in-Err-Fault-clause-used
returns-in-Err-Fault-clause-used c = used (goal.at.returns-in-Err-Fault-clause-used c).After-search_part

pub returns-in-Err-NoMemory-clause-used : goal.returns-in-Err-NoMemory-clause-used
returns-in-Err-NoMemory-clause-used c = used (goal.at.returns-in-Err-NoMemory-clause-used c).After-search_part

pub returns-in-Err-Fault-clause-spent : goal.returns-in-Err-Fault-clause-spent
returns-in-Err-Fault-clause-spent c =
    let n = part_work _ _ _ _ _ _ _ c.requires.parts (omega arith) c.loop-p.invariant in
    let s = rw (c.in-Err-Fault.field-0-is, c.members.ensures.value) at c.in-Err-Fault.ensures.found in
    (s.0, omega (arith, n, s.1))

pub returns-in-Ok-Refuted-clause-decided : goal.returns-in-Ok-Refuted-clause-decided
returns-in-Ok-Refuted-clause-decided c =
    let found = rw (c.in-Ok-Refuted.field-0-is, c.members.ensures.value) at c.in-Ok-Refuted.ensures.found in (
      part_refuted _ _ _ _ _ _ _ c.requires.parts (omega arith) c.loop-p.invariant found.0,
      found.1,
    )

pub returns-in-Ok-Refuted-clause-taken : goal.returns-in-Ok-Refuted-clause-taken
returns-in-Ok-Refuted-clause-taken c _ =
    let j = c.loop-p.invariant in
    more_by_after c.args.meter.now c.loop-p.meter c.search_part.new.meter 1 j.most j.units c.in-Ok-Refuted.ensures.taken

pub returns-in-Ok-Refuted-clause-counted : goal.returns-in-Ok-Refuted-clause-counted
returns-in-Ok-Refuted-clause-counted c =
    let j = c.loop-p.invariant in
    more_by_after c.args.meter.now c.loop-p.meter c.search_part.new.meter (length c.in-Ok-Refuted.log.lines) j.most
    j.units (rw c.in-Ok-Refuted.field-0-is at c.in-Ok-Refuted.ensures.counted)

pub loop-p-preserved : goal.loop-p-preserved
loop-p-preserved c =
    let found = rw (c.in-Ok-Seats.field-0-is, c.members.ensures.value) at c.in-Ok-Seats.ensures.found in
    joining_next _ _ _ _ _ c.in-Ok-Seats.found.items c.extend_from_slice.new.self.items _ _ _ (omega arith)
    c.loop-p.invariant found (c.in_ok-extend_from_slice-in-Ok-Seats.ensures.items ∙ (rw c.deref.ensures.value refl))
    c.search_part.ensures.most c.search_part.ensures.units c.in-Ok-Seats.ensures.taken
    (rw c.members.ensures.value at c.search_part.ensures.used)

pub returns-in_err-offsets-clause-used : goal.returns-in_err-offsets-clause-used
returns-in_err-offsets-clause-used c = all_work _ _ _ _ _ _ _ c.requires.parts c.loop-p.invariant

pub returns-clause-used : goal.returns-clause-used
returns-clause-used c = all_work _ _ _ _ _ _ _ c.requires.parts c.loop-p.invariant

pub returns-clause-decided : goal.returns-clause-decided
returns-clause-decided c =
    rw (c.in_ok-offsets.ensures, c.deref-2.ensures.value) (all_joined _ _ _ _ _
    _ _ c.requires.parts (omega arith) c.loop-p.invariant)

pub returns-clause-taken : goal.returns-clause-taken
returns-clause-taken c =
    all_taken c.args.task.now.instance.now c.args.task.now.capacity c.args.parts.now c.loop-p.p c.loop-p.seats.items
    c.args.meter.now c.loop-p.meter c.requires.parts (omega arith) c.loop-p.invariant
