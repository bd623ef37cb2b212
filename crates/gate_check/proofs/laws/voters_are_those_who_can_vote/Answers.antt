use Rattle.gate_check.proofs.Voters.{can_vote_by, is_voter_name}
use Rattle.gate_check.proofs.laws.voters_are_those_who_can_vote.Goals as goal

pub returns : goal.returns
returns c = λ name. (is_voter_name name, can_vote_by name)
