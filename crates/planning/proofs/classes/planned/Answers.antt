use Rattle.std.proofs.Common.{List, ℕ, ap, ◌∙◌}
use Rattle.run_course.specs.Prepares.{write_of}
use Rattle.writings.specs.Writings.{layout_file}
use Rattle.planning.proofs.Concluding.{planned}
use Rattle.planning.proofs.classes.planned.Goals as goal

pub returns : goal.returns
returns c =
    let found = c.in-Ok.ensures.value in
    planned c.args.words.now.output.now c.args.table.now c.args.instance.now (write_of c.in_ok-file.file)
    c.in-Ok.plan.offsets.items c.in-Ok.plan.height c.in-Ok.plan.load
    (c.in_ok-file.ensures.file ∙ ap (λ (xs : List ℕ). layout_file c.args.words.now.output.now c.args.table.now xs)
    c.as_slice.ensures.value) found.0 found.1 found.2 found.3 c.in-Ok.ensures.layout c.in-Ok.ensures.powers
    c.in-Ok.ensures.least c.one_write.result c.one_write.ensures
