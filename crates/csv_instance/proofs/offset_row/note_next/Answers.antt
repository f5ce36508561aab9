use Rattle.std.proofs.Common.{◌≡◌, ◌∙◌, map, true, rules}
use Rattle.std.specs.Result.{is_ok}
use Rattle.csv.specs.Records.{fields_of}
use Rattle.csv_instance.proofs.IdLemmas.{if_ok}
use Rattle.csv_instance.proofs.OffsetRows.{entries-more}
use Rattle.csv_instance.proofs.offset_row.note_next.Goals as goal

pub returns : goal.returns
returns c = λ header before a are.
    let (fine, value) = c.in-Ok-read_offset.ensures header before a are in
    let inserted : is_ok c.insert.result ≡ true = search rules in
    let id_is = c.in-Ok-from_slice.ensures.items ∙ c.field_at.ensures in
    rw c.in-Ok.is (
      fine,
      entries-more (map (λ k. k.items) c.args.ids.now.keys) header before
          (fields_of c.in-Ok.row) c.args.columns.now c.args.found.now.entries c.insert.new.self.entries
          c.in-Ok-from_slice.id c.in-Ok-read_offset.offset a are fine value id_is
          (if_ok c.insert.result inserted c.insert.ensures.entries),
    )
