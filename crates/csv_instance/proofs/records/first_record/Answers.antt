use Rattle.csv.specs.Records.{fields_of}
use Rattle.csv_instance.proofs.GivesLemmas.{gives-none, gives-some}
use Rattle.csv_instance.proofs.records.first_record.Goals as goal

pub returns-in-Some-Ok : goal.returns-in-Some-Ok
returns-in-Some-Ok c = λ left g.
    let s = rw (c.in-Some-Ok.is, c.in-Some-Ok.field-0-is) at ((c.next.ensures.steps g.turns g.plain).0 g.ready) in
    gives-some c.args.records.now c.next.new.self left (fields_of c.in-Some-Ok.record) g s.0 s.1 s.2

pub returns : goal.returns
returns c = λ left g.
    let s = rw c.in-None.is at ((c.next.ensures.steps g.turns g.plain).0 g.ready) in
    gives-none c.args.records.now c.next.new.self left g s
