use Rattle.gate_check.proofs.Statuses.{is_named_so, is_status}
use Rattle.gate_check.proofs.laws.status_names_are_those_of_changes.Goals as goal

pub returns : goal.returns
returns c = λ name. (is_status name, is_named_so name)
