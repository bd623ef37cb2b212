use Rattle.std.proofs.Common.{inl}
use Rattle.page_server.proofs.service.PageService.show.Goals as goal

pub returns-in-Ok-clause-shows : goal.returns-in-Ok-clause-shows
returns-in-Ok-clause-shows g c = inl (c.in-Ok.page, c.in-Ok.ensures.ok, c.send.ensures)
