-- Which request asks for what: the table of the routes.
use Rattle.std.specs.Prelude.{◌≡◌, ◌<◌, ◌^◌, ◌++◌, ℕ, List, [], Option, None, Some, IfSome, codes, decimal}
use Rattle.page_routes.specs.Choices.{IsChoice}
use Rattle.page_routes.specs.declared.route.Place.{Place}
use Rattle.page_routes.specs.declared.route.Route.{Route}
use Rattle.page_routes.specs.declared.route.Route.TheVariants as route

-- a change, `N`, or one of its patch sets, `N,P`, each number in decimal
abbrev pub change_place_text : Option ℕ → List ℕ
change_place_text None = []
change_place_text (Some set) = codes "," ++ decimal set

abbrev pub route_place_text : Place → List ℕ
route_place_text place = decimal place.change ++ change_place_text place.set

-- its numbers have at most 32 bits
abbrev pub IsSmallPlace : Place → Type 0
IsSmallPlace place = (place.change < 2 ^ 32) × IfSome place.set (λ set. set < 2 ^ 32)

-- the path of each route
abbrev pub path_of : Route → List ℕ
path_of (route.List choice) = codes "/"
path_of (route.Change place) = codes "/change/" ++ route_place_text place
path_of route.Status = codes "/api/v1/status"
path_of (route.Items choice) = codes "/api/v1/items"
path_of (route.ChangeData place) = codes "/api/v1/changes/" ++ route_place_text place
path_of route.Events = codes "/api/v1/events"
path_of route.Metrics = codes "/metrics"
path_of route.Health = codes "/healthz"
path_of route.Style = codes "/style.css"
path_of route.Script = codes "/script.js"
path_of route.Icon = codes "/icon.svg"

-- the query has what the route takes from it; other queries are ignored
abbrev pub HasQuery : Option (List ℕ) → Route → Type 0
HasQuery query (route.List choice) = IsChoice query choice
HasQuery query (route.Items choice) = IsChoice query choice
HasQuery query (route.Change place) = IsSmallPlace place
HasQuery query (route.ChangeData place) = IsSmallPlace place
HasQuery query other = Unit {0}

-- the text names the place
abbrev pub IsPlace : List ℕ → Place → Type 0
IsPlace text place = (text ≡ route_place_text place) × IsSmallPlace place

-- the path of a route that takes nothing more from its request
abbrev pub IsPlainRoute : List ℕ → Route → Type 0
IsPlainRoute path (route.List choice) = ⊥
IsPlainRoute path (route.Items choice) = ⊥
IsPlainRoute path (route.Change place) = ⊥
IsPlainRoute path (route.ChangeData place) = ⊥
IsPlainRoute path other = path ≡ path_of other

-- a request with this path and this query asks for the route
abbrev pub IsRoute : List ℕ → Option (List ℕ) → Route → Type 0
IsRoute path query route = (path ≡ path_of route) × HasQuery query route
