use Rattle.gate_check.proofs.Taken.{never_broken, some_taken}
use Rattle.gate_check.proofs.laws.what_rejects_nothing_is_never_broken.Goals as goal

pub returns : goal.returns
returns c = record {
  broken = λ gate place pattern at none. never_broken gate place pattern at none;
  taken = λ pattern voter some writable is_voter named. some_taken pattern voter some writable is_voter named;
}
