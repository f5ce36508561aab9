use Rattle.std.proofs.Common.{◌≡◌, Err, Ok, Some, arith, length, map}
use Rattle.std.proofs.lemmas.List.{length-map}
use Rattle.csv_instance.specs.Records.{table_of}
use Rattle.csv_instance.specs.Rows.{parse_rows, values_of}
use Rattle.csv_instance.proofs.FailLemmas.{IfFault-map}
use Rattle.cyclic_plan.specs.Cycles.{unrolled}
use Rattle.cyclic_plan.specs.Unrolled.{cycle_rows_fault, unrolled_of}
use Rattle.cyclic_plan.specs.declared.fault.CycleFault.{CycleFault}
use Rattle.cyclic_plan.proofs.Tables.{accepted_rows, gives_layouts, has_text, refused_file, refused_row, unrolled_gives}
use Rattle.cyclic_plan.proofs.Wraps.{values_count, wraps_in_range, wraps_ready}
use Rattle.cyclic_plan.proofs.unrolling.unroll.Goals as goal

pub returns-in-Err-Fault-clause-unrolled : goal.returns-in-Err-Fault-clause-unrolled
returns-in-Err-Fault-clause-unrolled c =
    rw c.in-Err-Fault.fault-is (refused_file c.args.period (table_of c.args.bytes.now) c.in-Err-Fault.fault
    (rw c.in-Err-Fault.field-0-is at c.in-Err-Fault.ensures.read))

pub returns-in-Err-clause-unrolled : goal.returns-in-Err-clause-unrolled
returns-in-Err-clause-unrolled c =
    let table = table_of c.args.bytes.now in
    let same : c.in-Ok.rows ≡ table = c.in-Ok.ensures.read in
    let sound : parse_rows table ≡ Ok (values_of table) = rw same at c.in-Ok.ensures.sound in
    IfFault-map (λ (f : CycleFault). cycle_rows_fault c.args.period 0 (values_of c.in-Ok.rows) ≡ Some f)
    (λ (f : CycleFault). unrolled_of c.args.period table ≡ Err f) c.in-Err.failure
    (λ f bad. refused_row c.args.period table f sound (rw same at bad)) c.in-Err.ensures

pub write_changed-requires-clause-rises : goal.write_changed-requires-clause-rises
write_changed-requires-clause-rises c =
    rw (c.as_slice.ensures.value, c.in-Ok-wraps.ensures.1) (wraps_ready c.args.period (values_of c.in-Ok.rows))

pub write_changed-requires-clause-in_range : goal.write_changed-requires-clause-in_range
write_changed-requires-clause-in_range c =
    rw (c.as_slice.ensures.value, c.in-Ok-wraps.ensures.1)
    (wraps_in_range c.args.period (length c.in-Ok.rows) (values_of c.in-Ok.rows)
    (values_count c.in-Ok.rows c.in-Ok.ensures.sound))

pub returns-clause-unrolled : goal.returns-clause-unrolled
returns-clause-unrolled c =
    let table = table_of c.args.bytes.now in
    let same : c.in-Ok.rows ≡ table = c.in-Ok.ensures.read in
    let sound : parse_rows table ≡ Ok (values_of table) = rw same at c.in-Ok.ensures.sound in
    let good = rw same at c.in-Ok-wraps.ensures.0 in
    let records = values_count table sound in
    let all = rw same at c.count.ensures.value in
    let buffers = length-map (values_of table) (unrolled c.args.period) in (
      map (unrolled c.args.period) (values_of table),
      accepted_rows c.args.period table sound good,
      omega (arith, records, all, buffers),
    )

pub returns-clause-text : goal.returns-clause-text
returns-clause-text c =
    let table = table_of c.args.bytes.now in
    has_text c.args.period table c.in-Ok-write_changed.text.items
    (rw (c.as_slice.ensures.value, c.in-Ok-wraps.ensures.1, c.in-Ok.ensures.read) at c.in-Ok-write_changed.ensures.text)

pub returns-clause-parsed : goal.returns-clause-parsed
returns-clause-parsed c = λ I given.
    let table = table_of c.args.bytes.now in
    let text = has_text c.args.period table c.in-Ok-write_changed.text.items
    (rw (c.as_slice.ensures.value, c.in-Ok-wraps.ensures.1, c.in-Ok.ensures.read) at c.in-Ok-write_changed.ensures.text)
    in
    rw text (unrolled_gives c.args.period table I c.requires.period given).parsed

pub returns-clause-layouts : goal.returns-clause-layouts
returns-clause-layouts c = λ rows J read parsed.
    let table = table_of c.args.bytes.now in
    let same : c.in-Ok.rows ≡ table = c.in-Ok.ensures.read in
    let sound : parse_rows table ≡ Ok (values_of table) = rw same at c.in-Ok.ensures.sound in
    let good = rw same at c.in-Ok-wraps.ensures.0 in
    let text = has_text c.args.period table c.in-Ok-write_changed.text.items
    (rw (c.as_slice.ensures.value, c.in-Ok-wraps.ensures.1, c.in-Ok.ensures.read) at c.in-Ok-write_changed.ensures.text)
    in
    gives_layouts c.args.period table (map (unrolled c.args.period) (values_of table)) J rows c.requires.period
    (accepted_rows c.args.period table sound good) read (rw text at parsed)
