use Rattle.watch_core.proofs.Stays.{rest_untouched}
use Rattle.watch_core.proofs.laws.what_is_not_reached_stays.Goals as goal

pub returns : goal.returns
returns c = rest_untouched
