use Rattle.report_changes.proofs.OneGroup.{all_groups}
use Rattle.report_changes.proofs.laws.groups_give_what_is_listed.Goals as goal

pub returns : goal.returns
returns c = all_groups
