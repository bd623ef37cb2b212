use Rattle.event_filter.proofs.Truth.{agrees}
use Rattle.event_filter.proofs.laws.what_is_met_is_what_the_record_says.Goals as goal

pub returns : goal.returns
returns c = agrees
