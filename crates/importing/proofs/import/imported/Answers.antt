use Rattle.importing.proofs.Importing.{imports_accepted}
use Rattle.importing.proofs.import.imported.Goals as goal

pub returns : goal.returns
returns c =
    imports_accepted c.args.words.now.output.now c.args.bytes.now c.in-Ok.trace c.buffers-buffers.result
    c.in_ok-import.field-0.items c.one_write.result c.requires c.in-Ok.ensures.read c.buffers-buffers.ensures.value
    c.in_ok-import.ensures.text c.one_write.ensures
