use Rattle.state_core.specs.StateLaws.{state_of-IsJournalState, state_of-append}
use Rattle.state_core.proofs.laws.a_journal_has_one_state.Goals as goal

pub returns-clause-registers : goal.returns-clause-registers
returns-clause-registers c = state_of-IsJournalState

pub returns-clause-union : goal.returns-clause-union
returns-clause-union c = state_of-append
