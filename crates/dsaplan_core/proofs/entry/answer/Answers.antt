use Rattle.std.proofs.Common.{sym, ◌∙◌}
use Rattle.command_words.specs.declared.verb.Verb.TheVariants as verb
use Rattle.dsaplan_core.proofs.Going.{command_goes}
use Rattle.dsaplan_core.proofs.entry.answer.Goals as goal

pub returns-in-Solve : goal.returns-in-Solve
returns-in-Solve g c = command_goes (g.F.Files.seen c.args.files.now) (g.F.Files.seen c.perform.new.files)
    (g.S.Sink.seen c.args.out.now) (g.S.Sink.seen c.perform.new.out) c.perform.result c.args.request.now
    verb.Solve (sym c.in-Solve.is ∙ c.verb.ensures.value)
    (rw (
      c.number-capacity.ensures.value,
      c.name-input.ensures.value,
      c.name-output.ensures.value,
      c.name-log.ensures.value,
      c.number_given-steps.ensures.value,
    )
    at c.perform.ensures)

pub returns-in-Least : goal.returns-in-Least
returns-in-Least g c = command_goes (g.F.Files.seen c.args.files.now) (g.F.Files.seen c.perform-in-Least.new.files)
    (g.S.Sink.seen c.args.out.now) (g.S.Sink.seen c.perform-in-Least.new.out) c.perform-in-Least.result
    c.args.request.now
    verb.Least (sym c.in-Least.is ∙ c.verb.ensures.value)
    (rw (
      c.name-input.ensures.value,
      c.name-output.ensures.value,
      c.name-log.ensures.value,
      c.number_given-steps.ensures.value,
    )
    at c.perform-in-Least.ensures)

pub returns-in-Pack : goal.returns-in-Pack
returns-in-Pack g c = command_goes (g.F.Files.seen c.args.files.now) (g.F.Files.seen c.perform-in-Pack.new.files)
    (g.S.Sink.seen c.args.out.now) (g.S.Sink.seen c.perform-in-Pack.new.out) c.perform-in-Pack.result c.args.request.now
    verb.Pack (sym c.in-Pack.is ∙ c.verb.ensures.value)
    (rw (
      c.number_given.ensures.value,
      c.name-input.ensures.value,
      c.name-output.ensures.value,
      c.name-log.ensures.value,
      c.number.ensures.value,
    ) at c.perform-in-Pack.ensures)

pub returns-in-Verify : goal.returns-in-Verify
returns-in-Verify g c = command_goes (g.F.Files.seen c.args.files.now) (g.F.Files.seen c.perform-in-Verify.new.files)
    (g.S.Sink.seen c.args.out.now) (g.S.Sink.seen c.perform-in-Verify.new.out) c.perform-in-Verify.result
    c.args.request.now
    verb.Verify (sym c.in-Verify.is ∙ c.verb.ensures.value)
    (rw (c.number-capacity.ensures.value, c.name-input.ensures.value, c.name-layout.ensures.value)
    at c.perform-in-Verify.ensures)

pub returns-in-Refute : goal.returns-in-Refute
returns-in-Refute g c = command_goes (g.F.Files.seen c.args.files.now) (g.F.Files.seen c.perform-in-Refute.new.files)
    (g.S.Sink.seen c.args.out.now) (g.S.Sink.seen c.perform-in-Refute.new.out) c.perform-in-Refute.result
    c.args.request.now
    verb.Refute (sym c.in-Refute.is ∙ c.verb.ensures.value)
    (rw (c.name-input.ensures.value, c.name-log.ensures.value)
    at c.perform-in-Refute.ensures)

pub returns-in-Trim : goal.returns-in-Trim
returns-in-Trim g c = command_goes (g.F.Files.seen c.args.files.now) (g.F.Files.seen c.perform-in-Trim.new.files)
    (g.S.Sink.seen c.args.out.now) (g.S.Sink.seen c.perform-in-Trim.new.out) c.perform-in-Trim.result c.args.request.now
    verb.Trim (sym c.in-Trim.is ∙ c.verb.ensures.value)
    (rw (c.name-input.ensures.value, c.name-log.ensures.value, c.name-output.ensures.value)
    at c.perform-in-Trim.ensures)

pub returns-in-Upgrade : goal.returns-in-Upgrade
returns-in-Upgrade g c = command_goes (g.F.Files.seen c.args.files.now) (g.F.Files.seen c.perform-in-Upgrade.new.files)
    (g.S.Sink.seen c.args.out.now) (g.S.Sink.seen c.perform-in-Upgrade.new.out) c.perform-in-Upgrade.result
    c.args.request.now
    verb.Upgrade (sym c.in-Upgrade.is ∙ c.verb.ensures.value)
    (rw (c.name-input.ensures.value, c.name-log.ensures.value, c.name-output.ensures.value) at
    c.perform-in-Upgrade.ensures)

pub returns-in-Bounds : goal.returns-in-Bounds
returns-in-Bounds g c = command_goes (g.F.Files.seen c.args.files.now) (g.F.Files.seen c.perform-in-Bounds.new.files)
    (g.S.Sink.seen c.args.out.now) (g.S.Sink.seen c.perform-in-Bounds.new.out) c.perform-in-Bounds.result
    c.args.request.now
    verb.Bounds (sym c.in-Bounds.is ∙ c.verb.ensures.value)
    (rw (c.name-input.ensures.value)
    at c.perform-in-Bounds.ensures)

pub returns-in-Inspect : goal.returns-in-Inspect
returns-in-Inspect g c = command_goes (g.F.Files.seen c.args.files.now) (g.F.Files.seen c.perform-in-Inspect.new.files)
    (g.S.Sink.seen c.args.out.now) (g.S.Sink.seen c.perform-in-Inspect.new.out) c.perform-in-Inspect.result
    c.args.request.now verb.Inspect (sym c.in-Inspect.is ∙ c.verb.ensures.value)
    (rw (c.name-input.ensures.value) at c.perform-in-Inspect.ensures)

pub returns-in-Report : goal.returns-in-Report
returns-in-Report g c = command_goes (g.F.Files.seen c.args.files.now) (g.F.Files.seen c.perform-in-Report.new.files)
    (g.S.Sink.seen c.args.out.now) (g.S.Sink.seen c.perform-in-Report.new.out) c.perform-in-Report.result
    c.args.request.now
    verb.Report (sym c.in-Report.is ∙ c.verb.ensures.value)
    (rw (c.name-input.ensures.value, c.name-layout.ensures.value)
    at c.perform-in-Report.ensures)

pub returns-in-Draw : goal.returns-in-Draw
returns-in-Draw g c = command_goes (g.F.Files.seen c.args.files.now) (g.F.Files.seen c.perform-in-Draw.new.files)
    (g.S.Sink.seen c.args.out.now) (g.S.Sink.seen c.perform-in-Draw.new.out) c.perform-in-Draw.result c.args.request.now
    verb.Draw (sym c.in-Draw.is ∙ c.verb.ensures.value)
    (rw (c.name-input.ensures.value, c.name-layout.ensures.value, c.name-output.ensures.value) at
    c.perform-in-Draw.ensures)

pub returns-in-Trial : goal.returns-in-Trial
returns-in-Trial g c = command_goes (g.F.Files.seen c.args.files.now) (g.F.Files.seen c.perform-in-Trial.new.files)
    (g.S.Sink.seen c.args.out.now) (g.S.Sink.seen c.perform-in-Trial.new.out) c.perform-in-Trial.result
    c.args.request.now
    verb.Trial (sym c.in-Trial.is ∙ c.verb.ensures.value)
    (rw (c.number-in-Trial.ensures.value, c.number-in-Trial-2.ensures.value, c.number-in-Trial-3.ensures.value)
    at c.perform-in-Trial.ensures)

pub returns-in-Import : goal.returns-in-Import
returns-in-Import g c = command_goes (g.F.Files.seen c.args.files.now) (g.F.Files.seen c.perform-in-Import.new.files)
    (g.S.Sink.seen c.args.out.now) (g.S.Sink.seen c.perform-in-Import.new.out) c.perform-in-Import.result
    c.args.request.now
    verb.Import (sym c.in-Import.is ∙ c.verb.ensures.value)
    (rw (c.name-trace.ensures.value, c.name-output.ensures.value) at c.perform-in-Import.ensures)

pub returns-in-Unroll : goal.returns-in-Unroll
returns-in-Unroll g c = command_goes (g.F.Files.seen c.args.files.now) (g.F.Files.seen c.perform-in-Unroll.new.files)
    (g.S.Sink.seen c.args.out.now) (g.S.Sink.seen c.perform-in-Unroll.new.out) c.perform-in-Unroll.result
    c.args.request.now
    verb.Unroll (sym c.in-Unroll.is ∙ c.verb.ensures.value)
    (rw (c.number-in-Unroll.ensures.value, c.name-input.ensures.value, c.name-output.ensures.value) at
    c.perform-in-Unroll.ensures)

pub returns-in-Classes : goal.returns-in-Classes
returns-in-Classes g c = command_goes (g.F.Files.seen c.args.files.now) (g.F.Files.seen c.perform-in-Classes.new.files)
    (g.S.Sink.seen c.args.out.now) (g.S.Sink.seen c.perform-in-Classes.new.out) c.perform-in-Classes.result
    c.args.request.now
    verb.Classes (sym c.in-Classes.is ∙ c.verb.ensures.value)
    (rw (c.name-input.ensures.value, c.name-output.ensures.value) at c.perform-in-Classes.ensures)

pub returns-in-Core : goal.returns-in-Core
returns-in-Core g c = command_goes (g.F.Files.seen c.args.files.now) (g.F.Files.seen c.perform-in-Core.new.files)
    (g.S.Sink.seen c.args.out.now) (g.S.Sink.seen c.perform-in-Core.new.out) c.perform-in-Core.result c.args.request.now
    verb.Core (sym c.in-Core.is ∙ c.verb.ensures.value)
    (rw (
      c.number-capacity.ensures.value,
      c.name-input.ensures.value,
      c.name-output.ensures.value,
      c.name-log.ensures.value,
    ) at c.perform-in-Core.ensures)
