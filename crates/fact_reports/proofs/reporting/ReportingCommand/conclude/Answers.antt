use Rattle.run_course.specs.Course.{Concludes}
use Rattle.readings.proofs.AfterInput.{concluded, missing}
use Rattle.fact_reports.specs.Reporting.{ShowsReport}
use Rattle.fact_reports.proofs.Shown.{report_spoken}
use Rattle.fact_reports.proofs.reporting.ReportingCommand.conclude.Goals as goal

pub returns-in-Missing-clause-comes : goal.returns-in-Missing-clause-comes
returns-in-Missing-clause-comes g c =
    missing (g.F.Files.seen c.args.files.now) (g.F.Files.seen c.open_input.new.files) c.args.self.now.input.now
    c.in-Missing.status (λ t I. Concludes (ShowsReport g.R.InstanceReport.verb t I)) c.silent.result
    (rw c.in-Missing.is at c.in_ok-table.ensures.input) c.silent.ensures

pub returns-clause-comes : goal.returns-clause-comes
returns-clause-comes g c =
    let shows = ShowsReport g.R.InstanceReport.verb in
    concluded (g.F.Files.seen c.args.files.now) (g.F.Files.seen c.open_input.new.files) c.args.self.now.input.now
    c.in-Table.table c.instance.result.now shows (rw c.in-Table.is at c.in_ok-table.ensures.input)
    c.instance.ensures.parsed c.in_ok-table.ensures.files c.in_ok-table.ensures.counts
    (report_spoken g.R.InstanceReport.verb c.in-Table.table c.instance.result.now) c.report_shown.result
    c.report_shown.ensures
