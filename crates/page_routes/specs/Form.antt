-- What the query of a URL gives: the URL Standard, section 5.1, "application/x-www-form-urlencoded parsing".
use Rattle.std.specs.Prelude.{ℕ, List, [], Bool, Option, None, Some, find}
use Rattle.std.specs.Option.{option_map_or}
use Rattle.std.specs.Str.{bytes_eq}
use Rattle.std.specs.Str.Lossy.{utf8_lossy}
use Rattle.form_urlencoded.specs.Form.{decode, raw_pairs}

-- the decoded text of a name or a value; bytes that aren't UTF-8 become U+FFFD
abbrev pub form_text : List ℕ → List ℕ
form_text bytes = utf8_lossy (decode bytes)

-- whether a pair has this name
abbrev pub has_name : List ℕ → List ℕ × List ℕ → Bool
has_name name pair = bytes_eq (form_text pair.0) name

-- the value of the first pair that has this name; no text where there is none
abbrev pub form_value : List ℕ → List (List ℕ × List ℕ) → List ℕ
form_value name pairs = option_map_or (λ pair. form_text pair.1) (find (has_name name) pairs) []

-- the same of a query, where there is one
abbrev pub query_given : List ℕ → Option (List ℕ) → List ℕ
query_given name None = []
query_given name (Some query) = form_value name (raw_pairs query)
