use Rattle.std.proofs.Common.{ap, length, map, arith}
use Rattle.csv_instance.specs.Records.{table_of}
use Rattle.csv_instance.proofs.Short.{table_few}
use Rattle.csv_instance.proofs.offsets.read_rows.Goals as goal

pub note_rows-requires : goal.note_rows-requires
note_rows-requires c =
    let known = map (λ k. k.items) c.args.ids.now.keys in
    let (header, rows, is, gives, good, columns) =
    c.in-Ok.ensures known (table_of c.args.bytes.now) c.records-records.ensures in
    let all = table_few c.args.bytes.now in
    let short = c.requires in
    let count = ap length is in
    (header, rows, gives, good, columns, omega arith)

pub returns-in-Ok : goal.returns-in-Ok
returns-in-Ok c =
    let known = map (λ k. k.items) c.args.ids.now.keys in
    let (header, rows, is, gives, good, columns) =
    c.in-Ok.ensures known (table_of c.args.bytes.now) c.records-records.ensures in
    rw is (c.note_rows.ensures header rows gives good columns)

pub returns-in-Err : goal.returns-in-Err
returns-in-Err c = c.in-Err.ensures (map (λ k. k.items) c.args.ids.now.keys) (table_of c.args.bytes.now)
    c.records-records.ensures
