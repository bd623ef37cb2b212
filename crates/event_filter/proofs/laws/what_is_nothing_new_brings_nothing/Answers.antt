use Rattle.event_filter.proofs.Truth.{nothing_taken}
use Rattle.event_filter.proofs.laws.what_is_nothing_new_brings_nothing.Goals as goal

pub returns : goal.returns
returns c = nothing_taken
