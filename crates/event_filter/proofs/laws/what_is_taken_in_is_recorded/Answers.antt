use Rattle.event_filter.proofs.After.{said_after}
use Rattle.event_filter.proofs.laws.what_is_taken_in_is_recorded.Goals as goal

pub returns : goal.returns
returns c = said_after
