-- The answer to each route (RFC 9110, section 15.3.1 "200 OK" and section 15.5.5 "404 Not Found").
use Rattle.std.specs.Prelude.{◌≡◌, ℕ, List, ◌++◌, codes, decimal, length}
use Rattle.json.specs.Print.{print}
use Rattle.gate_rules.specs.Rules.{GateRules}
use Rattle.review_ops.specs.Operation.{Operation}
use Rattle.state_core.specs.State.{State, state_of}
use Rattle.state_core.specs.declared.item.Item.{Item}
use Rattle.ready_core.specs.Verdicts.{Judged}
use Rattle.why_text.specs.Asked.{IsItemAsked}
use Rattle.page_routes.specs.declared.page.Kind.{Kind}
use Rattle.page_routes.specs.declared.page.Kind.TheVariants as kind
use Rattle.page_routes.specs.declared.page.Page.{Page}
use Rattle.page_routes.specs.declared.page.Status.{Status}
use Rattle.page_routes.specs.declared.page.Status.TheVariants.{Found, NotFound}
use Rattle.page_routes.specs.declared.route.Place.{Place}
use Rattle.page_routes.specs.declared.route.Route.{Route}
use Rattle.page_routes.specs.declared.route.Route.TheVariants as route
use Rattle.page_text.specs.declared.facts.Facts.{Facts}
use Rattle.page_text.specs.Items.{items_tokens}
use Rattle.page_text.specs.Metrics.{AreMetrics}
use Rattle.page_text.specs.Problem.{problem_tokens}
use Rattle.page_text.specs.Rows.{chosen_rows}
use Rattle.page_text.specs.Site.{site_tokens}
use Rattle.page_text.specs.Table.{HasTable}
use Rattle.page_text.specs.Titles.{IsTitled, item_title}
use Rattle.page_text.specs.Waiting.{EndsInWaiting, waiting_for}
use Rattle.page_text.specs.declared.rows.Row.{Row}

pub record IsPage (status : Status) (kind : Kind) (page : Page) : Type 0 where
  pub status_is : page.status ≡ status
  pub kind_is : page.kind ≡ kind

-- the page with this text
pub record IsText (status : Status) (kind : Kind) (text : List ℕ) (page : Page) : Type 0 where
  pub is : IsPage status kind page
  pub text_is : page.body.items ≡ text

-- the page for people that has just one table with rows, which are those of this page of a list
pub record IsListPage (gate : GateRules) (state : State) (verdicts : Judged) (number : ℕ) (rows : List Row)
    (page : Page) : Type 0 where
  pub is : IsPage Found kind.Html page
  pub rows_are : HasTable gate state verdicts number rows page.body.items

-- the page for people of an item, which its title names
pub record IsItemPage (state : State) (item : Item) (page : Page) : Type 0 where
  pub is : IsPage Found kind.Html page
  pub titled : IsTitled (item_title state item) page.body.items

-- the data of an item, with those that wait for its change
pub record IsItemData (verdicts : Judged) (item : Item) (page : Page) : Type 0 where
  pub is : IsPage Found kind.Json page
  pub waiting : EndsInWaiting (waiting_for item.change verdicts.out) page.body.items

-- the item that is asked for is known, and its page is there; or there is no such item
pub data IsOfItem (state : State) (place : Place) (found : Item → Page → Type 0) (missing : Page → Type 0) (page : Page)
    : Type 0 where
  There : (item : Item) → IsItemAsked state place.change place.set item → found item page
      → IsOfItem state place found missing page
  NotThere : ((item : Item) → ¬ IsItemAsked state place.change place.set item) → missing page
      → IsOfItem state place found missing page

-- the event of how many items are ready, how many aren't, and how many operations there are (WHATWG, HTML Living
-- Standard, section 9.2.6 "Interpreting an event stream")
abbrev pub event_text : ℕ → ℕ → ℕ → List ℕ
event_text ready out operations =
    codes "retry: 2000\ndata: {\"ready\":" ++ decimal ready ++ codes ",\"out\":" ++ decimal out
    ++ codes ",\"operations\":" ++ decimal operations ++ codes "}\n\n"

-- the page of a route that is the same whatever the record is: that the site is well, the style, the script, the icon
abbrev pub IsSamePage : Route → Page → Type 0
IsSamePage route.Health page = IsText Found kind.Plain (codes "ok\n") page
IsSamePage route.Style page = IsPage Found kind.Style page
IsSamePage route.Script page = IsPage Found kind.Script page
IsSamePage route.Icon page = IsPage Found kind.Icon page
IsSamePage route page = ⊥

-- the page of a route is made of the record
abbrev pub IsOfRecord : Route → Type 0
IsOfRecord route.Health = ⊥
IsOfRecord route.Style = ⊥
IsOfRecord route.Script = ⊥
IsOfRecord route.Icon = ⊥
IsOfRecord route = Unit {0}

-- the page of all metrics
abbrev pub IsMetricsPage : GateRules → List Operation → Judged → Facts → Page → Type 0
IsMetricsPage gate journal verdicts facts page =
    (text : List ℕ) × AreMetrics gate journal verdicts facts text × IsText Found kind.Metrics text page

-- the answer under a gate, to a record with these verdicts on its state
abbrev pub IsPageAnswer : GateRules → List Operation → Judged → Facts → Route → Page → Type 0
IsPageAnswer gate journal verdicts facts (route.List choice) page =
    IsListPage gate (state_of journal) verdicts choice.page (chosen_rows (state_of journal) choice verdicts) page
IsPageAnswer gate journal verdicts facts (route.Change place) page =
    IsOfItem (state_of journal) place (IsItemPage (state_of journal)) (IsPage NotFound kind.Html) page
IsPageAnswer gate journal verdicts facts route.Status page =
    IsText Found kind.Json (print (site_tokens (length journal) verdicts facts)) page
IsPageAnswer gate journal verdicts facts (route.Items choice) page =
    IsText Found kind.Json
    (print (items_tokens (state_of journal) choice.page (chosen_rows (state_of journal) choice verdicts))) page
IsPageAnswer gate journal verdicts facts (route.ChangeData place) page =
    IsOfItem (state_of journal) place (IsItemData verdicts) (IsText NotFound kind.Problem (print problem_tokens)) page
IsPageAnswer gate journal verdicts facts route.Events page =
    IsText Found kind.Events (event_text (length verdicts.ready) (length verdicts.out) (length journal)) page
IsPageAnswer gate journal verdicts facts route.Metrics page = IsMetricsPage gate journal verdicts facts page
IsPageAnswer gate journal verdicts facts route.Health page = IsSamePage route.Health page
IsPageAnswer gate journal verdicts facts route.Style page = IsSamePage route.Style page
IsPageAnswer gate journal verdicts facts route.Script page = IsSamePage route.Script page
IsPageAnswer gate journal verdicts facts route.Icon page = IsSamePage route.Icon page
