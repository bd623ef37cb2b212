use Rattle.event_filter.proofs.Meanwhile.{above_neither}
use Rattle.event_filter.proofs.laws.nothing_is_above_both.Goals as goal

pub returns : goal.returns
returns c = above_neither
