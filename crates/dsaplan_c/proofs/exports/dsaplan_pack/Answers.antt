use Rattle.std.proofs.Common.{ap, arith}
use Rattle.dsa_plan.specs.Arrays.{arrays_of}
use Rattle.dsaplan_c.specs.Told.{least_status}
use Rattle.dsaplan_c.proofs.Giving.{are_given}
use Rattle.dsaplan_c.proofs.Laid.{packed_as}
use Rattle.dsaplan_c.proofs.exports.dsaplan_pack.Goals.{in-Ok, in-Err}
use Rattle.dsaplan_c.proofs.exports.dsaplan_pack.Goals as goal

pub returns-clause-layout : goal.returns-clause-layout
returns-clause-layout c le = elim c.match-pairs.branch [
  | in-Ok w ↦ packed_as _ _ _ _ _ _ _ _ _
      (are_given _ _ _ _ _ _ _ _ _ (arrays_of w.without_gaps.result) (arrays_of w.with_gaps.result)
      w.without_gaps.ensures w.with_gaps.ensures w.deref.ensures.value w.in-Ok.ensures)
      w.offsets-is w.answer-is c.least_status.ensures c.least_detail.ensures w.pack-answer.ensures.value le
  | in-Err w ↦ absurd (let e = ap least_status w.answer-is in let s = c.least_status.ensures in omega arith)
]
