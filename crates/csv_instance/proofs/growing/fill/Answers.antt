use Rattle.std.proofs.Common.{◌≡◌, ◌∙◌, ◌++◌, ◌∷◌, List, Err, ap, sym}
use Rattle.std.proofs.lemmas.List.{append-nil}
use Rattle.dsa_model.proofs.Results.{passed_on}
use Rattle.csv_instance.specs.Gives.{GaveRecord}
use Rattle.csv_instance.specs.Records.{Record}
use Rattle.csv_instance.specs.declared.fault.InstanceFault.{InstanceFault}
use Rattle.csv_instance.proofs.GivesLemmas.{gave-short, gives-none, next-bad, next-taken}
use Rattle.csv_instance.proofs.growing.fill.Goals as goal

pub with_next-requires : goal.with_next-requires
with_next-requires g c =
    let (left, gives, short, same) = c.loop-row.invariant in
    let s = rw c.in-Some.is at ((c.next.ensures.steps gives.turns gives.plain).0 gives.ready) in
    gave-short c.loop-row.row-iterator c.next.new.self left c.in-Some.row gives s short

pub returns-in_err-grown : goal.returns-in_err-grown
returns-in_err-grown g c = λ all from.
    let (left, gives, short, same) = c.loop-row.invariant in
    let s = rw c.in-Some.is at ((c.next.ensures.steps gives.turns gives.plain).0 gives.ready) in
    let seen = g.G.Grows.records c.loop-row.grown in
    let whole = g.G.Grows.records c.args.start ++ all in
    passed_on c.from_residual.result _ (λ (f : InstanceFault). GaveRecord c.in-Some.row
    (λ fields. (rest : List Record) → g.G.Grows.parsed (seen ++ fields ∷ rest) ≡ Err f))
    (λ (f : InstanceFault). g.G.Grows.parsed whole ≡ Err f) c.in_err-grown.field-0.0 c.from_residual.ensures.1
    c.in_err-grown.ensures
    (λ f bad. next-bad c.loop-row.row-iterator c.next.new.self left c.in-Some.row g.G.Grows.parsed whole seen f gives s
    (same all from) bad)

pub loop-row-preserved : goal.loop-row-preserved
loop-row-preserved g c =
    let (left, gives, short, same) = c.loop-row.invariant in
    let s = rw c.in-Some.is at ((c.next.ensures.steps gives.turns gives.plain).0 gives.ready) in
    let (more, on, few, next) = next-taken c.loop-row.row-iterator c.next.new.self left c.in-Some.row
    (g.G.Grows.records c.in_ok-grown.grown) (g.G.Grows.records c.loop-row.grown) gives s short c.in_ok-grown.ensures in
    (more, on, few, λ all from. next (g.G.Grows.records c.args.start ++ all) (same all from))

pub returns : goal.returns
returns g c = λ all from.
    let (left, gives, short, same) = c.loop-row.invariant in
    let s = rw c.in-None.is at ((c.next.ensures.steps gives.turns gives.plain).0 gives.ready) in
    let none = gives-none c.loop-row.row-iterator c.next.new.self left gives s in
    let seen = g.G.Grows.records c.loop-row.grown in
    sym (same all from ∙ ap (λ (t : List Record). seen ++ t) none ∙ append-nil seen)
