use Rattle.std.proofs.Common.{◌≡◌, ◌∙◌, ◌∷◌, [], Err, Some, map, refl, arith}
use Rattle.csv_instance.specs.Gives.{GaveRecord}
use Rattle.csv_instance.specs.Offsets.{layout_row_fault, parsed_offsets}
use Rattle.csv_instance.specs.declared.fault.OffsetsFault.{OffsetsFault}
use Rattle.csv_instance.proofs.FailLemmas.{IfFault-map}
use Rattle.csv_instance.proofs.FoundLemmas.{reading-end, reading-fault, reading-few, reading-more}
use Rattle.csv_instance.proofs.GivesLemmas.{gave-first, gives-none, gives-same}
use Rattle.csv_instance.proofs.offsets.note_rows.Goals as goal

pub loop-row-init : goal.loop-row-init
loop-row-init c =
    let (h, rows, gives, good_, columns_, few) = c.requires in
    let start = c.into_iter-row-iterator.ensures.into_iter_gives ∙ refl in (
      rows,
      rw start gives,
      λ header all from good columns.
          record {
            header = header;
            before = [];
            records = rw (gives-same c.args.records all rows from gives) refl;
            header_good = good;
            columns_are = columns;
            rows_good = refl;
            entries_are = rw c.new-found.ensures.empty refl;
          },
    )

pub note_next-requires : goal.note_next-requires
note_next-requires c =
    let (left, gives, reading) = c.loop-row.invariant in
    let (header, rows, from, good, columns, few) = c.requires in
    let less = reading-few (reading header rows from good columns) in
    omega arith

pub returns-in-Err : goal.returns-in-Err
returns-in-Err c = λ header all from good columns.
    let (left, gives, reading) = c.loop-row.invariant in
    let s = rw c.in-Some.is at ((c.next.ensures.steps gives.turns gives.plain).0 gives.ready) in
    let r = reading header all from good columns in
    let ids = map (λ k. k.items) c.args.ids.now.keys in
    IfFault-map (λ (f : OffsetsFault). GaveRecord c.in-Some.row
    (λ fields. layout_row_fault ids r.header r.before fields ≡ Some f))
    (λ (f : OffsetsFault). parsed_offsets ids (header ∷ all) ≡ Err f) c.in-Err.failure
    (λ f h. let (fields, bad, more, first, on) =
    gave-first c.loop-row.row-iterator c.next.new.self left c.in-Some.row _ gives s h in
    reading-fault r fields more f first bad)
    (c.in-Err.ensures r.header r.before r.columns_are r.entries_are)

pub loop-row-preserved : goal.loop-row-preserved
loop-row-preserved c =
    let (left, gives, reading) = c.loop-row.invariant in
    let s = rw c.in-Some.is at ((c.next.ensures.steps gives.turns gives.plain).0 gives.ready) in
    let (header, rows, from, good, columns, few) = c.requires in
    let r = reading header rows from good columns in
    let (fields, noted, more, first, on) =
    gave-first c.loop-row.row-iterator c.next.new.self left c.in-Some.row _ gives s
    (c.in-Ok.ensures r.header r.before r.columns_are r.entries_are) in (
      more,
      on,
      λ header rows from good columns.
          let r = reading header rows from good columns in
          let (other, is, rest, also, next) =
          gave-first c.loop-row.row-iterator c.next.new.self left c.in-Some.row _ gives s
          (c.in-Ok.ensures r.header r.before r.columns_are r.entries_are) in
          let same : rest ≡ more = gives-same c.next.new.self rest more next on in
          rw (← same) (reading-more r other rest c.note_next.new.found.entries also is.0 is.1),
    )

pub returns : goal.returns
returns c = λ header all from good columns.
    let (left, gives, reading) = c.loop-row.invariant in
    let s = rw c.in-None.is at ((c.next.ensures.steps gives.turns gives.plain).0 gives.ready) in
    reading-end (reading header all from good columns)
    (gives-none c.loop-row.row-iterator c.next.new.self left gives s)
