use Rattle.std.proofs.Common.{◌⊎◌, ◌∙◌, ℕ, ◌+◌, List, drop, slice_index_or, subst}
use Rattle.std.proofs.lemmas.List.{drop_all, drop_more, length-set}
use Rattle.dsa_terms.specs.Claims.{IsIn}
use Rattle.dsa_terms.proofs.Places.{in_at}
use Rattle.conflicts.specs.Walks.{IsMarked}
use Rattle.conflicts.proofs.Walking.{AreMarkedBut, all_marked, marked_next}
use Rattle.conflicts.proofs.parts.mark.Goals as goal

pub bounds-marks-b : goal.bounds-marks-b
bounds-marks-b c =
    rw c.loop-b.invariant.count (c.requires _ (in_at c.args.buffers.now c.loop-b.b-index 0 c.loop-b-test.true))

pub loop-b-preserved : goal.loop-b-preserved
loop-b-preserved c =
    let bs = c.args.buffers.now in
    let n = c.loop-b.b-index in
    let P = λ (b : ℕ). IsMarked c.args.marks.now b ⊎ IsIn b bs in
    record {
      count = length-set _ _ _ ∙ c.loop-b.invariant.count;
      left = marked_next P (drop (n + 1) bs) (slice_index_or bs n 0) c.loop-b.marks
          (rw c.loop-b.invariant.count (c.requires _ (in_at bs n 0 c.loop-b-test.true)))
          (subst (λ (xs : List ℕ). AreMarkedBut P xs c.loop-b.marks) (drop_more bs n 0 c.loop-b-test.true)
          c.loop-b.invariant.left);
    }

pub returns-clause-each : goal.returns-clause-each
returns-clause-each c =
    let bs = c.args.buffers.now in
    let P = λ (b : ℕ). IsMarked c.args.marks.now b ⊎ IsIn b bs in
    all_marked P c.loop-b.marks (subst (λ (xs : List ℕ). AreMarkedBut P xs c.loop-b.marks)
    (drop_all c.loop-b.b-index bs c.loop-b-test.false) c.loop-b.invariant.left)
