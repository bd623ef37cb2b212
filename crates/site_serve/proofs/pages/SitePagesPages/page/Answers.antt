-- What is shown of the moment, with the figures that were gathered before.
use Rattle.site_serve.proofs.Shown.{with_some_figures}
use Rattle.site_serve.specs.InForce.{followed_gate}
use Rattle.site_serve.proofs.pages.SitePagesPages.page.Goals as goal

pub returns-clause-ok : goal.returns-clause-ok
returns-clause-ok g c = (
  c.show-shown.ensures.later,
  with_some_figures (followed_gate c.show-shown.new.self.follower) c.in_ok-facts.facts c.show-shown.new.self.window.window.seen
      c.args.route.now c.in_ok-page-2.page c.in_ok-page-2.ensures.page,
)
