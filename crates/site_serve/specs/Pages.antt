-- What a page of a running site shows.
use Rattle.std.specs.Prelude.{◌≡◌, ◌⊎◌, List}
use Rattle.gate_rules.specs.Rules.{GateRules}
use Rattle.page_routes.specs.declared.page.Page.{Page}
use Rattle.page_routes.specs.declared.page.Status.TheVariants.{Unavailable}
use Rattle.page_routes.specs.declared.route.Route.{Route}
use Rattle.page_text.specs.Answer.{IsPageAnswer, IsSamePage}
use Rattle.page_text.specs.declared.facts.Facts.{Facts}
use Rattle.ready_core.specs.Verdicts.{AreVerdicts, Judged}
use Rattle.review_ops.specs.Operation.{Operation}
use Rattle.site_shared.specs.Publishes.{arrive}
use Rattle.state_core.specs.State.{state_of}

-- the page answers the route by a record, the verdicts on that record, and these facts of the site
abbrev pub IsPageOf : GateRules → Facts → List Operation → Judged → Route → Page → Type 0
IsPageOf gate facts journal judged route page =
    IsPageAnswer gate journal judged facts route page

-- the page is of one moment: of what was published up to there, with the verdicts on that
abbrev pub IsOfMoment : GateRules → Facts → List (List Operation) → Route → Page → Type 0
IsOfMoment gate facts seen route page =
    (judged : Judged) × AreVerdicts gate (state_of (arrive seen)) judged
    × IsPageOf gate facts (arrive seen) judged route page

-- the page is of one moment, or the site can't show itself
abbrev pub ShowsMoment : GateRules → Facts → List (List Operation) → Route → Page → Type 0
ShowsMoment gate facts seen route page = IsOfMoment gate facts seen route page ⊎ (page.status ≡ Unavailable)

-- the same, with some facts of the site; or the page doesn't depend on the site
abbrev pub ShowsSite : GateRules → List (List Operation) → Route → Page → Type 0
ShowsSite gate seen route page =
    ((facts : Facts) × IsOfMoment gate facts seen route page) ⊎ (IsSamePage route page ⊎ (page.status ≡ Unavailable))
