use Rattle.std.proofs.Common.{◌≡◌, ◌^◌, refl}
use Rattle.dsa_terms.specs.Buffers.{Instance}
use Rattle.run_course.specs.Course.{Concludes, says}
use Rattle.readings.specs.Judging.{judged}
use Rattle.readings.proofs.AfterInput.{prepared_for}
use Rattle.readings.proofs.JudgedLayouts.{no_layout, with_layout}
use Rattle.judging.specs.Drawing.{Draws, drawing}
use Rattle.judging.proofs.Drawn.{ends_within_of, told}
use Rattle.judging.proofs.draw.DrawTableCommand.conclude_table.Goals as goal

pub drawing-requires : goal.drawing-requires
drawing-requires g c = λ J read.
    let found = rw c.in-Layout.is at c.in_ok-offsets.ensures.judged in
    let same : J ≡ found.instance = (let a = read in let b = found.parsed in cc) in
    rw c.as_slice.ensures.value
    (ends_within_of J found.instance c.in-Layout.offsets.items same found.judged.layout)

pub returns-in-Layout-clause-comes : goal.returns-in-Layout-clause-comes
returns-in-Layout-clause-comes g c =
    let found = rw c.in-Layout.is at c.in_ok-offsets.ensures.judged in
    let words = c.args.self.now in
    let table = c.args.table.now in
    let before = g.F.Files.seen c.args.files.now in
    let after = g.F.Files.seen c.read_judged_layout.new.files in
    let offsets = c.in-Layout.offsets.items in
    prepared_for before after table found.instance
    (λ t I. judged words.layout.now t I (2 ^ 60)
    (λ offsets. Concludes (Draws words.output.now t I offsets)))
    (drawing words.output.now table found.instance offsets) c.drawing.result found.parsed
    (told table found.instance (λ (I : Instance). drawing words.output.now table I offsets)
    c.drawing.result found.parsed (rw c.as_slice.ensures.value at c.drawing.ensures))
    (with_layout before after words.layout.now table found.instance (2 ^ 60) offsets
    (λ offsets. Concludes (Draws words.output.now table found.instance offsets)) found.judged
    (drawing words.output.now table found.instance offsets)
    (tt, record { layout = found.judged.layout; drawn = refl }))

pub returns-in-NoLayout-clause-comes : goal.returns-in-NoLayout-clause-comes
returns-in-NoLayout-clause-comes g c =
    let found = rw c.in-NoLayout.is at c.in_ok-offsets.ensures.judged in
    let words = c.args.self.now in
    let table = c.args.table.now in
    let before = g.F.Files.seen c.args.files.now in
    let after = g.F.Files.seen c.read_judged_layout.new.files in
    prepared_for before after table found.instance
    (λ t I. judged words.layout.now t I (2 ^ 60)
    (λ offsets. Concludes (Draws words.output.now t I offsets))) (says c.in-NoLayout.status) c.silent.result
    found.parsed c.silent.ensures
    (no_layout before after words.layout.now table found.instance (2 ^ 60) c.in-NoLayout.status
    (λ offsets. Concludes (Draws words.output.now table found.instance offsets)) found.judged)
