use Rattle.std.proofs.Common.{◌∙◌}
use Rattle.csv_instance.proofs.GivesLemmas.{gives-all}
use Rattle.csv_instance.proofs.records.records.Goals as goal

pub returns : goal.returns
returns c =
    let fr = c.from_reader.ensures in
    let e = c.flexible.ensures in
    let h = c.has_headers.ensures in
    gives-all c.into_byte_records.result c.from_reader.result c.args.bytes.now c.into_byte_records.ensures.rdr
    c.into_byte_records.ensures.left
    (rw (e, h) at fr.trim ∙ c.new.ensures.trim) (rw (e, h) at fr.has_headers) fr.headers
    (rw (e, h) at fr.config ∙ c.new.ensures.config) fr.source fr.state
