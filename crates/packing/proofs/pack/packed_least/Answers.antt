use Rattle.std.proofs.Common.{Some, refl}
use Rattle.run_status.specs.declared.status.Status.TheVariants.{Least, Open}
use Rattle.writings.specs.Answers.{answer_files}
use Rattle.writings.specs.Named.{names_of}
use Rattle.writings.proofs.Answering.{gives}
use Rattle.packing.specs.Packing.{IsPacked}
use Rattle.packing.proofs.Packed.{closed_exhausts, leaves_open, of_each, packs_least}
use Rattle.packing.proofs.pack.packed_least.Goals as goal

pub returns-in-Exact-clause-value : goal.returns-in-Exact-clause-value
returns-in-Exact-clause-value c =
    let within = c.args.words.now.capacity in
    let steps = c.args.words.now.steps in
    let I = c.args.instance.now in
    let b = c.in-Exact.bracket in
    gives (IsPacked I within steps) (names_of c.args.words.now.names) c.args.table.now (Least b.high)
    (Some b.layout.items) b.log
    (packs_least within steps I b c.requires.none (rw c.in-Exact.is at c.in_ok-bracket.ensures.value))
    _ refl c.both_files.result c.both_files.ensures.readable c.both_files.ensures.files

pub returns-in-Open-clause-value : goal.returns-in-Open-clause-value
returns-in-Open-clause-value c =
    let within = c.args.words.now.capacity in
    let steps = c.args.words.now.steps in
    let I = c.args.instance.now in
    let b = c.in-Open.bracket in
    gives (IsPacked I within steps) (names_of c.args.words.now.names) c.args.table.now (Open b.low b.high)
    (Some b.layout.items) b.log
    (leaves_open within steps I b (rw c.in-Open.is at c.in_ok-bracket.ensures.value) (rw c.requires.none tt))
    _ refl c.both_files-in-Open.result c.both_files-in-Open.ensures.readable c.both_files-in-Open.ensures.files

pub returns-in-Exact-clause-exhausted : goal.returns-in-Exact-clause-exhausted
returns-in-Exact-clause-exhausted c =
    let names = names_of c.args.words.now.names in
    let b = c.in-Exact.bracket in
    closed_exhausts _ (answer_files names c.args.table.now (Some b.layout.items) b.log)
    (Least b.high) c.both_files.result c.both_files.ensures.files (λ low high e. absurd cc)

pub returns-in-Open-clause-exhausted : goal.returns-in-Open-clause-exhausted
returns-in-Open-clause-exhausted c =
    of_each _ c.both_files-in-Open.result (rw c.in-Open.is at c.in_ok-bracket.ensures.exhausted)
