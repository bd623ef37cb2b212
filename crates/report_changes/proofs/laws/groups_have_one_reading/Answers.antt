use Rattle.report_changes.proofs.OneReading.{group_is, one_reading}
use Rattle.report_changes.proofs.laws.groups_have_one_reading.Goals as goal

pub returns-clause-groups : goal.returns-clause-groups
returns-clause-groups c = group_is

pub returns-clause-reading : goal.returns-clause-reading
returns-clause-reading c = one_reading
