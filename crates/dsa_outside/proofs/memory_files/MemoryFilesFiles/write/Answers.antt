use Rattle.std.proofs.Common.{ap, ◌∙◌, Some}
use Rattle.std.specs.FinMap.{remove}
use Rattle.dsa_outside.proofs.FileMaps.{remove-insert}
use Rattle.dsa_outside.proofs.memory_files.MemoryFilesFiles.write.Goals as goal

pub returns-clause-others : goal.returns-clause-others
returns-clause-others c =
    ap (λ m. Some (remove m c.args.name.now)) c.in_ok-set.ensures.ok
    ∙ ap Some (remove-insert c.self.inside.store c.args.name.now c.args.bytes.now)
    ∙ ap (λ s. Some (remove s.files c.args.name.now)) c.self.view_is
