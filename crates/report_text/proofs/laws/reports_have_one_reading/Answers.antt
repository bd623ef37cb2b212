use Rattle.report_text.specs.ReportLaws.{one_report}
use Rattle.report_text.proofs.laws.reports_have_one_reading.Goals as goal

pub returns : goal.returns
returns c = one_report
