use Rattle.std.proofs.Common.{◌<◌}
use Rattle.page_server.proofs.clients.Clients.place.Given as goal

abbrev pub invariant-loop-at : goal.invariant-loop-at
invariant-loop-at l = l.best < 200
