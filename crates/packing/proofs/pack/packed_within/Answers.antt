use Rattle.std.proofs.Common.{◌≡◌, ℕ, List, [], ◌∷◌, None, Some, refl, ap, subst}
use Rattle.run_status.specs.declared.status.Status.TheVariants.{Feasible, Infeasible, Open}
use Rattle.run_course.specs.Course.{Write}
use Rattle.run_course.specs.Prepares.{write_of}
use Rattle.writings.specs.Named.{names_of}
use Rattle.writings.specs.Writings.{layout_file}
use Rattle.writings.proofs.Answering.{gives, of_any}
use Rattle.packing.specs.Packing.{IsPacked}
use Rattle.packing.proofs.Packed.{closed_exhausts, leaves_open, of_each}
use Rattle.packing.proofs.pack.packed_within.Goals as goal

pub returns-in_ok-file-in-Layout-clause-value : goal.returns-in_ok-file-in-Layout-clause-value
returns-in_ok-file-in-Layout-clause-value c =
    let names = names_of c.args.words.now.names in
    let table = c.args.table.now in
    let file = subst
    (λ (o : List ℕ). write_of c.in_ok-file-in-Layout.file ≡ layout_file names.output table o)
    c.as_slice.ensures.value c.in_ok-file-in-Layout.ensures.file in
    gives (IsPacked c.args.instance.now c.args.words.now.capacity c.args.words.now.steps) names table
    (Feasible c.args.capacity) (Some c.in-Layout.offsets.items) None
    (c.requires.given, rw c.in-Layout.is at c.in_ok-offsets.ensures.value)
    _ (ap (λ (w : Write). w ∷ []) file) c.one_write.result (of_any _ c.one_write.result tt) c.one_write.ensures

pub returns-in_ok-file-in-Refuted-clause-value : goal.returns-in_ok-file-in-Refuted-clause-value
returns-in_ok-file-in-Refuted-clause-value c =
    gives (IsPacked c.args.instance.now c.args.words.now.capacity c.args.words.now.steps)
    (names_of c.args.words.now.names) c.args.table.now (Infeasible c.args.capacity) None
    (Some c.in-Refuted.refutation) (c.requires.given, rw c.in-Refuted.is at c.in_ok-offsets.ensures.value)
    _ (ap (λ (w : Write). w ∷ []) c.in_ok-file-in-Refuted.ensures.file) c.one_write-in-Refuted.result
    (of_any _ c.one_write-in-Refuted.result c.in_ok-file-in-Refuted.ensures.readable) c.one_write-in-Refuted.ensures

pub returns-in-Open-clause-value : goal.returns-in-Open-clause-value
returns-in-Open-clause-value c =
    let within = c.args.words.now.capacity in
    let steps = c.args.words.now.steps in
    let I = c.args.instance.now in
    let b = c.in-Open.bracket in
    let left = rw c.in-Open.is at c.in_ok-offsets.ensures.value in
    gives (IsPacked I within steps) (names_of c.args.words.now.names) c.args.table.now (Open b.low b.high)
    (Some b.layout.items) b.log
    (leaves_open within steps I b left.0 (rw c.requires.given (left.1, left.2)))
    _ refl c.both_files.result c.both_files.ensures.readable c.both_files.ensures.files

pub returns-in_ok-file-in-Layout-clause-exhausted : goal.returns-in_ok-file-in-Layout-clause-exhausted
returns-in_ok-file-in-Layout-clause-exhausted c =
    closed_exhausts _ (write_of c.in_ok-file-in-Layout.file ∷ []) (Feasible c.args.capacity) c.one_write.result
    c.one_write.ensures (λ low high e. absurd cc)

pub returns-in_ok-file-in-Refuted-clause-exhausted : goal.returns-in_ok-file-in-Refuted-clause-exhausted
returns-in_ok-file-in-Refuted-clause-exhausted c =
    closed_exhausts _ (write_of c.in_ok-file-in-Refuted.file ∷ []) (Infeasible c.args.capacity)
    c.one_write-in-Refuted.result c.one_write-in-Refuted.ensures (λ low high e. absurd cc)

pub returns-in-Open-clause-exhausted : goal.returns-in-Open-clause-exhausted
returns-in-Open-clause-exhausted c =
    of_each _ c.both_files.result (rw c.in-Open.is at c.in_ok-offsets.ensures.exhausted)
