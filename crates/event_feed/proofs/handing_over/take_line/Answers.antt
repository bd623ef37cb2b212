use Rattle.std.proofs.Common.{inl}
use Rattle.event_feed.proofs.handing_over.take_line.Goals as goal

pub returns-in-Ok : goal.returns-in-Ok
returns-in-Ok g c = inl (c.in-Ok.parsed, c.in-Ok.ensures.read, c.hand_over.ensures)
