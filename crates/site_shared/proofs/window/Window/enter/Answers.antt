-- Entering changes nothing of what is shown.
use Rattle.site_shared.proofs.Shows.{turns, goes_self}
use Rattle.site_shared.proofs.window.Window.enter.Goals as goal

pub enter_as-requires : goal.enter_as-requires
enter_as-requires c shown = turns _ _ shown shown (goes_self shown.sight.seen)
