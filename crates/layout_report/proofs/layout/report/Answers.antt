use Rattle.layout_report.proofs.Writing.{have_ids}
use Rattle.layout_report.proofs.layout.report.Goals as goal

pub report_text-requires : goal.report_text-requires
report_text-requires c = rw c.deref.ensures.value
    (have_ids _ _ _ _ _ c.in_ok-rows.ensures c.instance-instance.ensures.count)
