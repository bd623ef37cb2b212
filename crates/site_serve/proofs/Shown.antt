-- What a page shows.
use Rattle.std.proofs.Common.{inl, inr, List}
use Rattle.gate_rules.specs.Rules.{GateRules}
use Rattle.page_routes.specs.declared.page.Page.{Page}
use Rattle.page_routes.specs.declared.route.Route.{Route}
use Rattle.page_text.specs.declared.facts.Facts.{Facts}
use Rattle.review_ops.specs.Operation.{Operation}
use Rattle.site_serve.specs.Pages.{ShowsMoment, ShowsSite}

pub with_some_figures : (gate : GateRules) (facts : Facts) (seen : List (List Operation)) (route : Route) (page : Page)
    → ShowsMoment gate facts seen route page → ShowsSite gate seen route page
with_some_figures gate facts seen route page (inl shown) = inl (facts, shown)
with_some_figures gate facts seen route page (inr unwell) = inr (inr unwell)
