use Rattle.std.proofs.Common.{◌≡◌, ℕ, List, [], ◌∷◌, Some, None, refl, ap, subst}
use Rattle.dsa_model.proofs.Instances.{sound_instance}
use Rattle.planner.proofs.Stepping.{layout_given, no_start}
use Rattle.run_status.specs.declared.status.Status.TheVariants.{Feasible, Infeasible, Open}
use Rattle.run_course.specs.Course.{Write}
use Rattle.run_course.specs.Prepares.{write_of}
use Rattle.writings.specs.Named.{names_of}
use Rattle.writings.specs.Writings.{layout_file}
use Rattle.writings.proofs.Answering.{gives, of_any}
use Rattle.deciding.specs.Deciding.{IsSolved}
use Rattle.deciding.proofs.Decided.{undecided}
use Rattle.deciding.proofs.solve.solved.Goals as goal

pub returns-in_ok-file-in-Layout : goal.returns-in_ok-file-in-Layout
returns-in_ok-file-in-Layout c =
    let C = c.args.words.now.capacity in
    let steps = c.args.words.now.steps in
    let names = names_of c.args.words.now.names in
    let table = c.args.table.now in
    let I = c.args.instance.now in
    let answer = rw c.in-Layout.is at c.in_ok-offsets.ensures.value in
    let file = subst
    (λ (o : List ℕ). write_of c.in_ok-file-in-Layout.file ≡ layout_file names.output table o)
    c.as_slice.ensures.value c.in_ok-file-in-Layout.ensures.file in
    gives (IsSolved I C steps) names table (Feasible C) (Some c.in-Layout.offsets.items) None (
      refl,
      record {
        planned = answer.chosen;
        layout = answer.layout;
        searched = layout_given I C steps
            (λ low. rw c.in-Layout.is at (c.in_ok-offsets.ensures.bound low))
            (λ none le. rw c.in-Layout.is at (c.in_ok-offsets.ensures.steps none le));
      },
    ) _ (ap (λ (w : Write). w ∷ []) file) c.one_write.result (of_any _ c.one_write.result tt) c.one_write.ensures

pub returns-in_ok-file-in-Refuted : goal.returns-in_ok-file-in-Refuted
returns-in_ok-file-in-Refuted c =
    let C = c.args.words.now.capacity in
    let steps = c.args.words.now.steps in
    let I = c.args.instance.now in
    let refuted = rw c.in-Refuted.is at c.in_ok-offsets.ensures.value in
    gives (IsSolved I C steps) (names_of c.args.words.now.names) c.args.table.now (Infeasible C) None
    (Some c.in-Refuted.refutation) (
      refl,
      record {
        refuted = refuted;
        by_bound = λ low. rw c.in-Refuted.is at (c.in_ok-offsets.ensures.bound low);
        searched = λ le. rw c.in-Refuted.is at (c.in_ok-offsets.ensures.steps
            (no_start I C (sound_instance I c.len-count.ensures.buffers) refuted.infeasible) le);
      },
    ) _ (ap (λ (w : Write). w ∷ []) c.in_ok-file-in-Refuted.ensures.file) c.one_write-in-Refuted.result
    (of_any _ c.one_write-in-Refuted.result c.in_ok-file-in-Refuted.ensures.readable) c.one_write-in-Refuted.ensures

pub returns-in-Open : goal.returns-in-Open
returns-in-Open c =
    let C = c.args.words.now.capacity in
    let steps = c.args.words.now.steps in
    let I = c.args.instance.now in
    let b = c.in-Open.bracket in
    gives (IsSolved I C steps) (names_of c.args.words.now.names) c.args.table.now (Open b.low b.high)
    (Some b.layout.items) b.log (undecided C steps I b (rw c.in-Open.is at c.in_ok-offsets.ensures.value))
    _ refl c.both_files.result c.both_files.ensures.readable c.both_files.ensures.files
