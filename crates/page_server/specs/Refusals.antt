-- Why a request gets no page, and what is answered: status codes of RFC 9110, section 15, and problem details of RFC
-- 9457, sections 3 and 4.2.1.
use Rattle.std.specs.Prelude.{ℕ, Bool, true, false, List, codes}
use Rattle.page_routes.specs.declared.page.Kind.{Kind}
use Rattle.page_routes.specs.declared.page.Kind.TheVariants.{Plain, Problem}
use Rattle.page_server.specs.declared.refusal.Refusal.{Refusal}
use Rattle.page_server.specs.declared.refusal.Refusal.TheVariants.{NoHost, OtherHost, OtherMethod, NoPage, NoMemory}

abbrev pub code_of : Refusal → ℕ
code_of NoHost = 400
code_of OtherHost = 421
code_of OtherMethod = 405
code_of NoPage = 404
code_of NoMemory = 503

abbrev pub problem_kind : Bool → Kind
problem_kind true = Problem
problem_kind false = Plain

-- the text for programs (true) and for people (false)
abbrev pub response_text : Bool → Refusal → List ℕ
response_text true NoHost = codes "{\"type\":\"about:blank\",\"title\":\"Bad Request\",\"status\":400}\n"
response_text true OtherHost = codes "{\"type\":\"about:blank\",\"title\":\"Misdirected Request\",\"status\":421}\n"
response_text true OtherMethod = codes "{\"type\":\"about:blank\",\"title\":\"Method Not Allowed\",\"status\":405}\n"
response_text true NoPage = codes "{\"type\":\"about:blank\",\"title\":\"Not Found\",\"status\":404}\n"
response_text true NoMemory = codes "{\"type\":\"about:blank\",\"title\":\"Service Unavailable\",\"status\":503}\n"
response_text false NoHost = codes "400 Bad Request\n"
response_text false OtherHost = codes "421 Misdirected Request\n"
response_text false OtherMethod = codes "405 Method Not Allowed\n"
response_text false NoPage = codes "404 Not Found\n"
response_text false NoMemory = codes "503 Service Unavailable\n"
