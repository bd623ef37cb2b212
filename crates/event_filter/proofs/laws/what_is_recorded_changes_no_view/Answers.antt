use Rattle.event_filter.proofs.Alike.{said_changes_nothing}
use Rattle.event_filter.proofs.laws.what_is_recorded_changes_no_view.Goals as goal

pub returns : goal.returns
returns c = said_changes_nothing
