use Rattle.std.proofs.Common.{◌≡◌, ◌∙◌, ◌+◌, Err, Ok, ap, sym}
use Rattle.csv_instance.specs.Offsets.{ids_of, parsed_offsets}
use Rattle.csv_instance.specs.Records.{table_of}
use Rattle.csv_instance.proofs.FailLemmas.{IfFault-map, if_ok-of}
use Rattle.csv_instance.proofs.FoundLemmas.{read-all}
use Rattle.csv_instance.proofs.LayoutLaw.{layout-back}
use Rattle.csv_instance.proofs.OffsetFacts.{ids-count, offsets-count, offsets-limit, reads-back}
use Rattle.csv_instance.proofs.offsets.read_offsets.Goals as goal

pub returns-clause-read : goal.returns-clause-read
returns-clause-read c =
    let ids = ids_of c.args.table.now in
    read-all c.ids-ids.result.now.keys ids
    (table_of c.args.bytes.now) c.in-Ok.found.entries (c.ids-ids.ensures.ids ∙ ap ids_of c.rows.ensures.rows)
    c.in-Ok.ensures c.offsets_by_buffer.result c.offsets_by_buffer.ensures

pub returns-clause-count : goal.returns-clause-count
returns-clause-count c =
    let ids = ids_of c.args.table.now in
    let table = table_of c.args.bytes.now in
    let same = c.ids-ids.ensures.ids ∙ ap ids_of c.rows.ensures.rows in
    let read = read-all c.ids-ids.result.now.keys ids table c.in-Ok.found.entries same c.in-Ok.ensures
    c.offsets_by_buffer.result c.offsets_by_buffer.ensures in
    let count = ids-count c.args.table.now c.rows.ensures.parsed.0 c.rows.ensures.parsed.1 in
    if_ok-of _ c.offsets_by_buffer.result
    (λ v e. count ∙ ap (λ n. n + 1) (sym (offsets-count ids table v.items e))) read

pub returns-clause-limit : goal.returns-clause-limit
returns-clause-limit c =
    let ids = ids_of c.args.table.now in
    let table = table_of c.args.bytes.now in
    let same = c.ids-ids.ensures.ids ∙ ap ids_of c.rows.ensures.rows in
    let read = read-all c.ids-ids.result.now.keys ids table c.in-Ok.found.entries same c.in-Ok.ensures
    c.offsets_by_buffer.result c.offsets_by_buffer.ensures in
    if_ok-of _ c.offsets_by_buffer.result (λ v e. offsets-limit ids table v.items e) read

pub returns-clause-back : goal.returns-clause-back
returns-clause-back c = λ offsets small even text.
    let ids = ids_of c.args.table.now in
    let table = table_of c.args.bytes.now in
    let same = c.ids-ids.ensures.ids ∙ ap ids_of c.rows.ensures.rows in
    let read = read-all c.ids-ids.result.now.keys ids table c.in-Ok.found.entries same c.in-Ok.ensures
    c.offsets_by_buffer.result c.offsets_by_buffer.ensures in
    let back : parsed_offsets ids table ≡ Ok offsets =
    rw text (layout-back c.args.table.now c.rows.ensures.parsed.0 offsets c.rows.ensures.parsed.1 small even) in
    reads-back (parsed_offsets ids table) offsets c.offsets_by_buffer.result back read

pub returns-in-Err-clause-back : goal.returns-in-Err-clause-back
returns-in-Err-clause-back c = λ offsets small even text.
    let ids = ids_of c.args.table.now in
    let table = table_of c.args.bytes.now in
    let back : parsed_offsets ids table ≡ Ok offsets =
    rw text (layout-back c.args.table.now c.rows.ensures.parsed.0 offsets c.rows.ensures.parsed.1 small even) in
    IfFault-map _ _ c.in-Err.failure
    (λ f bad.
    let same : Err f ≡ Ok offsets =
    sym bad ∙ ap (λ i. parsed_offsets i table) (c.ids-ids.ensures.ids ∙ ap ids_of c.rows.ensures.rows) ∙ back in
    cc same) c.in-Err.ensures
