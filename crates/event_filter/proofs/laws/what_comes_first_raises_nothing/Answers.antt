use Rattle.event_filter.proofs.Meanwhile.{raises_nothing}
use Rattle.event_filter.proofs.laws.what_comes_first_raises_nothing.Goals as goal

pub returns : goal.returns
returns c = raises_nothing
