use Rattle.std.proofs.Common.{refl}
use Rattle.run_status.specs.declared.status.Status.TheVariants as status
use Rattle.run_course.specs.Course.{Concludes, says}
use Rattle.readings.specs.Judging.{judged}
use Rattle.readings.proofs.AfterInput.{prepared_for}
use Rattle.readings.proofs.JudgedLayouts.{no_layout, with_layout}
use Rattle.judging.specs.Judging.{TellsRight}
use Rattle.judging.proofs.verify.VerifyTableCommand.conclude_table.Goals as goal

pub returns-clause-comes : goal.returns-clause-comes
returns-clause-comes g c =
    let found = rw c.in-Layout.is at c.in_ok-judged.ensures.judged in
    let words = c.args.self.now in
    let table = c.args.table.now in
    let before = g.F.Files.seen c.args.files.now in
    let after = g.F.Files.seen c.read_judged_layout.new.files in
    let offsets = c.in-Layout.offsets.items in
    prepared_for before after table found.instance
    (λ t I. judged words.layout.now t I words.capacity
    (λ offsets. Concludes (TellsRight I words.capacity offsets))) (says status.Right) c.silent-2.result found.parsed
    c.silent-2.ensures
    (with_layout before after words.layout.now table found.instance words.capacity offsets
    (λ offsets. Concludes (TellsRight found.instance words.capacity offsets)) found.judged (says status.Right)
    (tt, record { layout = found.judged.layout; told = refl }))

pub returns-in-NoLayout-clause-comes : goal.returns-in-NoLayout-clause-comes
returns-in-NoLayout-clause-comes g c =
    let found = rw c.in-NoLayout.is at c.in_ok-judged.ensures.judged in
    let words = c.args.self.now in
    let table = c.args.table.now in
    let before = g.F.Files.seen c.args.files.now in
    let after = g.F.Files.seen c.read_judged_layout.new.files in
    prepared_for before after table found.instance
    (λ t I. judged words.layout.now t I words.capacity
    (λ offsets. Concludes (TellsRight I words.capacity offsets))) (says c.in-NoLayout.status) c.silent.result
    found.parsed c.silent.ensures
    (no_layout before after words.layout.now table found.instance words.capacity c.in-NoLayout.status
    (λ offsets. Concludes (TellsRight found.instance words.capacity offsets)) found.judged)
