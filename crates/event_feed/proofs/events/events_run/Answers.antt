use Rattle.std.proofs.Common.{inr, refl}
use Rattle.event_feed.proofs.events.events_run.Goals as goal

pub returns-in-Ok : goal.returns-in-Ok
returns-in-Ok g c = inr (record { greeted = _; written = c.in-Ok.ensures; same = refl; fed = c.feed_lines.ensures })
