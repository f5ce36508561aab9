use Rattle.std.proofs.Common.{◌≤◌, inl, inr, slice_index, ◌∙◌, arith}
use Rattle.dsa_model.specs.Limits.{time_limit}
use Rattle.dsa_plan.specs.Arrays.{arrays_of}
use Rattle.dsa_plan.proofs.Faulty.{buffer_is, have_lengths, is_faulty, is_late, is_sound}
use Rattle.dsa_plan.proofs.building.buffer.Goals.{then-lower-gt-TIME_LIMIT-via-then-lower-gt-TIME_LIMIT, then-lower-gt-TIME_LIMIT-via-else-lower-gt-TIME_LIMIT+then-upper-gt-TIME_LIMIT}
use Rattle.dsa_plan.proofs.building.buffer.Goals as goal

pub bounds-arrays-b-2 : goal.bounds-arrays-b-2
bounds-arrays-b-2 c = let l = have_lengths _ _ c.requires.lengths in omega arith

pub returns-then-lower-gt-TIME_LIMIT : goal.returns-then-lower-gt-TIME_LIMIT
returns-then-lower-gt-TIME_LIMIT c = is_late (arrays_of c.args.arrays.now) c.args.b
    (elim c.then-lower-gt-TIME_LIMIT.branch [
      | then-lower-gt-TIME_LIMIT-via-then-lower-gt-TIME_LIMIT w ↦ inl (omega (arith, w.if-lower-gt-TIME_LIMIT.true))
      | then-lower-gt-TIME_LIMIT-via-else-lower-gt-TIME_LIMIT+then-upper-gt-TIME_LIMIT w ↦
          inr (omega (arith, w.if-upper-gt-TIME_LIMIT.true))
    ])

pub bounds-arrays-b-3 : goal.bounds-arrays-b-3
bounds-arrays-b-3 c = let l = have_lengths _ _ c.requires.lengths in omega arith

pub bounds-arrays-b-4 : goal.bounds-arrays-b-4
bounds-arrays-b-4 c = let l = have_lengths _ _ c.requires.lengths in omega arith

pub bounds-arrays-b-5 : goal.bounds-arrays-b-5
bounds-arrays-b-5 c = let l = have_lengths _ _ c.requires.lengths in omega arith

pub returns-in-Ok : goal.returns-in-Ok
returns-in-Ok c =
    let a = arrays_of c.args.arrays.now in
    let here = buffer_is a c.args.b c.args.gaps.now c.requires.gaps in
    let l : slice_index a.lower c.args.b ≤ time_limit = omega (arith, c.if-lower-gt-TIME_LIMIT.false) in
    let u : slice_index a.upper c.args.b ≤ time_limit = omega (arith, c.if-upper-gt-TIME_LIMIT.false) in
    (c.in-Ok.ensures.value.0 ∙ here, is_sound a c.args.b _ here l u c.in-Ok.ensures.value.1.no_fault)

pub returns-in-Err-Fault : goal.returns-in-Err-Fault
returns-in-Err-Fault c =
    let a = arrays_of c.args.arrays.now in
    let here = buffer_is a c.args.b c.args.gaps.now c.requires.gaps in
    let l : slice_index a.lower c.args.b ≤ time_limit = omega (arith, c.if-lower-gt-TIME_LIMIT.false) in
    let u : slice_index a.upper c.args.b ≤ time_limit = omega (arith, c.if-upper-gt-TIME_LIMIT.false) in
    is_faulty a c.args.b _ c.in-Err-Fault.fault here l u
    (rw c.in-Err-Fault.field-0-is at c.in-Err-Fault.ensures.value)
