use Rattle.gate_check.proofs.Voters.{voter_test}
use Rattle.gate_check.proofs.finding.can_vote.Goals as goal

pub returns : goal.returns
returns c = voter_test c.args.username.now c.is_voter.result c.is_voter.ensures.0 c.is_voter.ensures.1
