use Rattle.std.proofs.Common.{inr}
use Rattle.page_server.proofs.service.PageServiceService.call.Goals as goal

pub returns-in-Page-clause-ok : goal.returns-in-Page-clause-ok
returns-in-Page-clause-ok g c = (
  inr (c.in-Page.route, rw c.in-Page.is at c.in_ok-route.ensures, rw (← c.is_for_programs-for_programs.ensures, ← c.headers.ensures) c.show.ensures.shows),
  c.show.ensures.hosts,
  c.show.ensures.date,
)
