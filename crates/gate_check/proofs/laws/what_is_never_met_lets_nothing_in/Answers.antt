use Rattle.std.specs.Prelude.{is_some}
use Rattle.gate_rules.specs.Own.{side_rules}
use Rattle.gate_check.specs.Meeting.{shuts_out}
use Rattle.gate_check.proofs.Exact.{is_found}
use Rattle.gate_check.proofs.Said.{said_of}
use Rattle.gate_check.proofs.Shut.{approval_shut, both, current_shut, is_rejected, none_in, status_shut}
use Rattle.gate_check.proofs.laws.what_is_never_met_lets_nothing_in.Goals as goal

pub returns : goal.returns
returns c = record {
  opening = λ gate side is. status_shut gate (none_in gate side (both (is_some (side_rules gate side).is_open) (shuts_out gate side) is).1);
  current = λ gate side is. current_shut gate side is;
  status = λ gate side is. status_shut gate (none_in gate side (both (is_some (side_rules gate side).status) (shuts_out gate side) is).1);
  said = λ gate none. said_of gate none;
  approval = λ gate place pattern at is.
      approval_shut gate place pattern at (is_rejected gate.reject.approvals pattern is);
  exact = λ gate pattern. (is_rejected gate.reject.approvals pattern, is_found gate.reject.approvals pattern);
}
