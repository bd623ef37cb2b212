use Rattle.state_core.specs.StateLaws.{state_of-same}
use Rattle.state_core.proofs.laws.equal_journals_have_equal_states.Goals as goal

pub returns : goal.returns
returns c = state_of-same
