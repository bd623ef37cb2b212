use Rattle.gate_rules.proofs.Found.{finds_first_member, finds_first_item}
use Rattle.gate_rules.proofs.laws.the_first_fault_is_found.Goals as goal

pub returns : goal.returns
returns c = record { members = finds_first_member; items = finds_first_item }
