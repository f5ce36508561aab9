use Rattle.std.proofs.Common.{ap, ◌∙◌, string_bytes}
use Rattle.std.specs.FinMap.{insert}
use Rattle.dsa_outside.proofs.FileMaps.{file_map-insert}
use Rattle.dsa_outside.proofs.store.Store.set.Goals as goal

pub returns-clause-ok : goal.returns-clause-ok
returns-clause-ok c =
    file_map-insert c.self.inside.files c.insert.new.self c.in_ok-key.key c.in_ok-value.value
    c.in_ok-insert.ensures.entries
    ∙ ap (λ m. insert m (string_bytes c.in_ok-key.key) c.in_ok-value.value.items) c.self.view_is
    ∙ ap (λ k. insert c.args.self.now k c.in_ok-value.value.items) c.in_ok-key.ensures.ok
    ∙ ap (λ v. insert c.args.self.now c.args.name.now v) c.in_ok-value.ensures.items
