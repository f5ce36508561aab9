use Rattle.std.proofs.lemmas.List.{map-set}
use Rattle.csv_instance.proofs.changed.put_at.Goals as goal

pub returns-then-place-len : goal.returns-then-place-len
returns-then-place-len c = rw c.in-Some.is (map-set (λ f. f.now) c.args.fields.now.items c.in-Some.place c.args.field)
