use Rattle.std.proofs.Common.{inl}
use Rattle.feed_client.proofs.listing.end_listing.Goals as goal

pub returns-in-Ok : goal.returns-in-Ok
returns-in-Ok g c = inl (c.take_held.new.self.feed, c.in-Ok.ensures.taken, c.abandon_rest.ensures)
