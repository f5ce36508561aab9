use Rattle.std.proofs.Common.{◌^◌, refl}
use Rattle.run_course.specs.Course.{Concludes, says, shows}
use Rattle.run_course.proofs.Silently.{comes_by}
use Rattle.readings.specs.Judging.{judged}
use Rattle.readings.proofs.AfterInput.{prepared_for}
use Rattle.readings.proofs.JudgedLayouts.{no_layout, with_layout}
use Rattle.judging.specs.Judging.{ShowsLayout}
use Rattle.judging.proofs.report.ReportTableCommand.conclude_table.Goals as goal

pub report-requires : goal.report-requires
report-requires g c =
    let found = rw c.in-Layout.is at c.in_ok-offsets.ensures.judged in
    (found.instance, found.parsed, rw c.as_slice.ensures.value found.judged.layout)

pub returns-in_ok-text-in-Layout-clause-comes : goal.returns-in_ok-text-in-Layout-clause-comes
returns-in_ok-text-in-Layout-clause-comes g c =
    let found = rw c.in-Layout.is at c.in_ok-offsets.ensures.judged in
    let words = c.args.self.now in
    let table = c.args.table.now in
    let before = g.F.Files.seen c.args.files.now in
    let after = g.F.Files.seen c.read_judged_layout.new.files in
    let text = c.in_ok-text-in-Layout.text.items in (
      found.instance,
      found.parsed,
      comes_by before after
          (judged words.layout.now table found.instance (2 ^ 60)
          (λ offsets. Concludes (ShowsLayout table found.instance offsets)))
          c.shown.result (shows text) c.shown.ensures
          (with_layout before after words.layout.now table found.instance
          (2 ^ 60) c.in-Layout.offsets.items (λ offsets. Concludes (ShowsLayout table found.instance offsets))
          found.judged (shows text) (
            tt,
            record {
              layout = found.judged.layout;
              text = text;
              its_text = rw c.as_slice.ensures.value at
                  (c.in_ok-text-in-Layout.ensures.text found.instance found.parsed);
              shown = refl;
            },
          )),
    )

pub returns-in-NoLayout-clause-comes : goal.returns-in-NoLayout-clause-comes
returns-in-NoLayout-clause-comes g c =
    let found = rw c.in-NoLayout.is at c.in_ok-offsets.ensures.judged in
    let words = c.args.self.now in
    let table = c.args.table.now in
    let before = g.F.Files.seen c.args.files.now in
    let after = g.F.Files.seen c.read_judged_layout.new.files in
    prepared_for before after table found.instance
    (λ t I. judged words.layout.now t I (2 ^ 60)
    (λ offsets. Concludes (ShowsLayout t I offsets))) (says c.in-NoLayout.status) c.silent.result found.parsed
    c.silent.ensures
    (no_layout before after words.layout.now table found.instance (2 ^ 60)
    c.in-NoLayout.status (λ offsets. Concludes (ShowsLayout table found.instance offsets)) found.judged)
