-- The responses to requests.
use Rattle.std.specs.Prelude.{◌≡◌, ◌⊎◌, ℕ, Bool, true, false, List, [], ◌∷◌, ◌++◌, Option, codes, take}
use Rattle.std.specs.Str.{bytes_eq}
use Rattle.http_header.specs.FieldValue.{FieldValue}
use Rattle.http_header.specs.HeaderMap.{Entries}
use Rattle.http_uri.specs.Uri.{uri_path}
use Rattle.http.specs.declared.request.Parts.{Parts}
use Rattle.http1.specs.Fields.{Header}
use Rattle.http_server.specs.Response.{IsResponse}
use Rattle.http_server.specs.declared.response.Response.{Response}
use Rattle.page_routes.specs.declared.page.Kind.{Kind}
use Rattle.page_routes.specs.declared.page.Kind.TheVariants.{Icon, Script, Style}
use Rattle.page_routes.specs.declared.page.Page.{Page}
use Rattle.page_routes.specs.declared.page.Status.{Status}
use Rattle.page_routes.specs.declared.page.Status.TheVariants.{Found, NotFound, Unavailable}
use Rattle.page_routes.specs.declared.route.Route.{Route}
use Rattle.page_server.specs.Asked.{IsRequestFor}
use Rattle.page_server.specs.Fields.{fixed_fields, kept_fields, response_fields}
use Rattle.page_server.specs.Refusals.{code_of, problem_kind, response_text}
use Rattle.page_server.specs.Tags.{IsNamed, tag_text}
use Rattle.page_server.specs.declared.asked.Asked.TheVariants as asked
use Rattle.page_server.specs.declared.refusal.Refusal.{Refusal}
use Rattle.page_server.specs.declared.refusal.Refusal.TheVariants.{NoHost, OtherHost, OtherMethod, NoPage, NoMemory}

abbrev pub status_number : Status → ℕ
status_number Found = 200
status_number NotFound = 404
status_number Unavailable = 503

-- texts of these kinds stay the same while the site runs
abbrev pub is_same : Kind → Bool
is_same Style = true
is_same Script = true
is_same Icon = true
is_same other = false

-- what a request with these fields is shown of a page, at this date. Of a text that stays the same only the tag is sent
-- where the request names it: status 304 (RFC 9110, section 15.4.5).
pub data ShowsPage (headers : Entries FieldValue) (page : Page) (date : Option FieldValue) (response : Response)
    : Type 0 where
  Made : is_same page.kind ≡ false
      → IsResponse (status_number page.status) (response_fields page.kind date) page.body.items response
      → ShowsPage headers page date response
  Fixed : is_same page.kind ≡ true → ¬ IsNamed (tag_text page.body.items) headers
      → IsResponse (status_number page.status) (fixed_fields page.kind page.body.items date) page.body.items response
      → ShowsPage headers page date response
  Kept : is_same page.kind ≡ true → IsNamed (tag_text page.body.items) headers
      → IsResponse 304 (kept_fields page.body.items date) [] response
      → ShowsPage headers page date response

-- the answer to a refused method lists the allowed ones (RFC 9110, section 10.2.1)
abbrev pub allow_fields : Refusal → List Header
allow_fields OtherMethod = (codes "allow", codes "GET, HEAD") ∷ []
allow_fields other = []

-- the response is the refusal, for programs or for people, at this date
abbrev pub IsRefusalResponse : Refusal → Bool → Option FieldValue → Response → Type 0
IsRefusalResponse refusal for_programs date =
    IsResponse (code_of refusal) (response_fields (problem_kind for_programs) date ++ allow_fields refusal)
    (response_text for_programs refusal)

-- whether the request is one of a program
abbrev pub is_for_programs : Parts → Bool
is_for_programs head = bytes_eq (codes "/api/") (take 5 (uri_path head.uri))

-- the response is 503, with its text unless there is no memory even for that
abbrev pub IsFailure : Bool → Option FieldValue → Response → Type 0
IsFailure for_programs date response =
    IsRefusalResponse NoMemory for_programs date response ⊎ IsResponse 503 [] [] response

-- the maker of pages: which page answers a route, and the effect of a request that gets no page
module _ {P : Type 0} (pages : P → Route → Page → P → Type 0) (moves : P → P → Type 0) where
  -- what a refusal leaves: only one for another host is noted
  abbrev pub Leaves : Refusal → P → P → Type 0
  Leaves OtherHost old new = moves old new
  Leaves NoHost old new = new ≡ old
  Leaves OtherMethod old new = new ≡ old
  Leaves NoPage old new = new ≡ old
  Leaves NoMemory old new = new ≡ old

  -- a page that is there is sent, or what could be made of it wasn't to be sent, or it couldn't be made
  abbrev pub Shows : Entries FieldValue → Option FieldValue → P → Route → Bool → Response → P → Type 0
  Shows headers date old route for_programs response new =
      ((page : Page) × pages old route page new
      × (ShowsPage headers page date response ⊎ IsFailure for_programs date response))
      ⊎ (moves old new × IsFailure for_programs date response)

  -- the request asks for no page, and is answered why
  abbrev pub Refuses : List (List ℕ) → Option FieldValue → P → Parts → Response → P → Type 0
  Refuses hosts date old head response new =
      (refusal : Refusal) × IsRequestFor hosts head (asked.Refused refusal)
      × IsRefusalResponse refusal (is_for_programs head) date response × Leaves refusal old new

  -- the request asks for a page: that is sent, or 503
  abbrev pub Answers : List (List ℕ) → Option FieldValue → P → Parts → Response → P → Type 0
  Answers hosts date old head response new =
      (route : Route) × IsRequestFor hosts head (asked.Page route)
      × Shows head.headers date old route (is_for_programs head) response new

  abbrev pub IsAnswered : List (List ℕ) → Option FieldValue → P → Parts → Response → P → Type 0
  IsAnswered hosts date old head response new =
      Refuses hosts date old head response new ⊎ Answers hosts date old head response new
