-- The fields of a response: RFC 9110, sections 8.3 (Content-Type), 6.6.1 (Date) and 8.8.3 (ETag), RFC 9111, sections
-- 5.2.2.4 (no-cache) and 5.2.2.5 (no-store); the Fetch Standard (X-Content-Type-Options, Cross-Origin-Resource-Policy),
-- Referrer Policy, and Content Security Policy Level 3.
use Rattle.std.specs.Prelude.{ℕ, Bool, true, false, List, [], ◌∷◌, ◌++◌, Option, None, Some, codes}
use Rattle.http1.specs.Fields.{Header}
use Rattle.http_header.specs.FieldValue.{FieldValue}
use Rattle.page_routes.specs.declared.page.Kind.{Kind}
use Rattle.page_routes.specs.declared.page.Kind.TheVariants.{Html, Icon, Json, Problem, Metrics, Events, Style, Script, Plain}
use Rattle.page_server.specs.Tags.{tag_text}

abbrev pub kind_text : Kind → List ℕ
kind_text Html = codes "text/html; charset=utf-8"
kind_text Json = codes "application/json"
kind_text Problem = codes "application/problem+json"
kind_text Metrics = codes "text/plain; version=0.0.4; charset=utf-8"
kind_text Events = codes "text/event-stream"
kind_text Style = codes "text/css; charset=utf-8"
kind_text Script = codes "text/javascript; charset=utf-8"
kind_text Icon = codes "image/svg+xml"
kind_text Plain = codes "text/plain; charset=utf-8"

-- where the parts of a page may come from: this server alone
abbrev pub policy : List ℕ
policy =
    codes "default-src 'none'; style-src 'self'; script-src 'self'; connect-src 'self'; img-src 'self'; "
    ++ codes "form-action 'self'; base-uri 'none'; frame-ancestors 'none'"

-- a browser may keep the text, and asks each time whether it is still the same (true); or it doesn't keep it
abbrev pub cache_text : Bool → List ℕ
cache_text true = codes "no-cache"
cache_text false = codes "no-store"

abbrev pub cache_fields : Bool → List Header
cache_fields may_keep = (codes "cache-control", cache_text may_keep) ∷ []

-- a browser keeps the page from others
abbrev pub guard_fields : List Header
guard_fields =
    (codes "x-content-type-options", codes "nosniff")
    ∷ (codes "referrer-policy", codes "no-referrer")
    ∷ (codes "cross-origin-resource-policy", codes "same-origin")
    ∷ (codes "content-security-policy", policy) ∷ []

abbrev pub date_fields : Option FieldValue → List Header
date_fields None = []
date_fields (Some date) = (codes "date", date.bytes) ∷ []

-- those of all responses
abbrev pub common_fields : Bool → Option FieldValue → List Header
common_fields may_keep date = cache_fields may_keep ++ guard_fields ++ date_fields date

-- of a text that is made for the request
abbrev pub response_fields : Kind → Option FieldValue → List Header
response_fields kind date = (codes "content-type", kind_text kind) ∷ common_fields false date

-- of a text that stays the same, where a browser has kept it
abbrev pub kept_fields : List ℕ → Option FieldValue → List Header
kept_fields text date = common_fields true date ++ (codes "etag", tag_text text) ∷ []

-- and where it has not
abbrev pub fixed_fields : Kind → List ℕ → Option FieldValue → List Header
fixed_fields kind text date = (codes "content-type", kind_text kind) ∷ kept_fields text date
