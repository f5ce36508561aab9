use Rattle.csv_instance.specs.Records.{table_of}
use Rattle.importing.proofs.Unrolling.{unrolls_given}
use Rattle.importing.proofs.unroll.unrolled.Goals as goal

pub returns : goal.returns
returns c =
    let words = c.args.words.now in
    unrolls_given words.period words.output.now (table_of c.args.bytes.now) c.in-Ok.unrolled.buffers
    c.in-Ok.unrolled.text.items c.one_write.result c.requires.period c.in-Ok.ensures.unrolled c.in-Ok.ensures.text
    c.one_write.ensures
