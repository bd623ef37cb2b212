-- What a request asks for: RFC 9112, section 3.2 (one Host, and the host of a target in absolute form), RFC 9110,
-- sections 7.4 (misdirected requests) and 9.1 (methods).
use Rattle.std.specs.Prelude.{◌≡◌, ℕ, Bool, true, false, ◌&&◌, ◌||◌, List, [], ◌∷◌, Option, None, Some, codes}
use Rattle.std.specs.Option.{option_map_or}
use Rattle.std.specs.Str.{bytes_eq}
use Rattle.http_header.specs.FieldValue.{FieldValue}
use Rattle.http_header.specs.HeaderMap.{Entries, get_all}
use Rattle.http_uri.specs.Uri.{uri_authority, uri_path, uri_query}
use Rattle.http_uri.specs.declared.uri.Uri.{Uri}
use Rattle.http.specs.declared.request.Parts.{Parts}
use Rattle.page_routes.specs.Routes.{IsRoute}
use Rattle.page_routes.specs.declared.route.Route.{Route}
use Rattle.page_server.specs.Hosts.{is_own}
use Rattle.page_server.specs.declared.asked.Asked.{Asked}
use Rattle.page_server.specs.declared.asked.Asked.TheVariants.{Page, Refused}
use Rattle.page_server.specs.declared.refusal.Refusal.TheVariants.{NoHost, OtherHost, OtherMethod, NoPage, NoMemory}

-- the one value of a list that has just one
abbrev pub only : List FieldValue → Option (List ℕ)
only [] = None
only (value ∷ []) = Some value.bytes
only (value ∷ other ∷ more) = None

abbrev pub host_field : Entries FieldValue → Option (List ℕ)
host_field headers = only (get_all headers (codes "host"))

-- a target that names a host names one of this machine, or of these
abbrev pub is_own_target : List (List ℕ) → Uri → Bool
is_own_target hosts uri = option_map_or (is_own hosts) (uri_authority uri) true

abbrev pub is_read : List ℕ → Bool
is_read method = bytes_eq method (codes "GET") || bytes_eq method (codes "HEAD")

-- a host and a target are both of this machine or of these hosts
abbrev pub are_own : List (List ℕ) → List ℕ → Uri → Bool
are_own hosts host uri = is_own hosts host && is_own_target hosts uri

-- the request names one host, which is this machine or one of these, and so is that of its target
abbrev pub IsForThisHost : List (List ℕ) → Parts → Type 0
IsForThisHost hosts head =
    (host : List ℕ) × (host_field head.headers ≡ Some host) × (are_own hosts host head.uri ≡ true)

-- the request names one host, and that or its target's isn't this machine or one of these
abbrev pub IsOthers : List (List ℕ) → Parts → Type 0
IsOthers hosts head = (host : List ℕ) × (host_field head.headers ≡ Some host) × (are_own hosts host head.uri ≡ false)

-- the route is what the target names
abbrev pub NamesRoute : Parts → Route → Type 0
NamesRoute head route = IsRoute (uri_path head.uri) (uri_query head.uri) route

-- what the request asks for
abbrev pub IsRequestFor : List (List ℕ) → Parts → Asked → Type 0
IsRequestFor hosts head (Page route) = IsForThisHost hosts head × (is_read head.method ≡ true) × NamesRoute head route
IsRequestFor hosts head (Refused NoHost) = host_field head.headers ≡ None
IsRequestFor hosts head (Refused OtherHost) = IsOthers hosts head
IsRequestFor hosts head (Refused OtherMethod) = IsForThisHost hosts head × (is_read head.method ≡ false)
IsRequestFor hosts head (Refused NoPage) =
    IsForThisHost hosts head × (is_read head.method ≡ true) × ((route : Route) → ¬ NamesRoute head route)
IsRequestFor hosts head (Refused NoMemory) = ⊥
