use Rattle.std.proofs.Common.{◌≡◌, ◌∙◌, ◌∷◌, ◌++◌, ◌<◌, [], length, sym, ap, rules, true, arith}
use Rattle.std.proofs.lemmas.List.{map-append, take_more}
use Rattle.std.specs.Result.{is_ok}
use Rattle.csv.specs.Records.{fields_of}
use Rattle.csv_instance.specs.Records.{Record}
use Rattle.csv_instance.proofs.layout.all_fields.Goals as goal

pub loop-place-preserved : goal.loop-place-preserved
loop-place-preserved c =
    let pushed : is_ok c.push.result ≡ true = search rules in
    let items = rw pushed at c.push.ensures.items in
    let within : c.loop-place.place < length (fields_of c.args.row.now) = omega arith in
    rw items (map-append (λ f. f.now) c.loop-place.fields.items (c.field_at.result ∷ [])
    ∙ ap (λ (t : Record). t ++ (c.field_at.result.now ∷ [])) c.loop-place.invariant
    ∙ rw c.field_at.ensures (sym (take_more (fields_of c.args.row.now) c.loop-place.place [] within)))
