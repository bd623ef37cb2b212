-- Entity tags, and the requests that name one (RFC 9110, section 8.8.3 "ETag", section 13.1.2 "If-None-Match").
use Rattle.std.specs.Prelude.{◌≡◌, ◌⊎◌, ℕ, List, [], ◌∷◌, ◌++◌, codes}
use Rattle.hex.specs.Hex.{encode_lower}
use Rattle.http_header.specs.FieldValue.{FieldValue}
use Rattle.http_header.specs.HeaderMap.{Entries, get_all}
use Rattle.memchr.specs.Find.{OccursAt}
use Rattle.sha2.specs.Sha256.{sha256}

-- the entity tag of a text: the SHA-256 of its bytes (FIPS 180-4), in quotation marks
abbrev pub tag_text : List ℕ → List ℕ
tag_text text = codes "\"" ++ encode_lower (sha256 text) ++ codes "\""

-- a value of the field names the tag, compared weakly: it is `*`, or the tag with its quotation marks is in the
-- list. No tag has a quotation mark inside, so that what is in a list in quotation marks is one of its tags.
abbrev pub IsNamedIn : List ℕ → List ℕ → Type 0
IsNamedIn tag value = (value ≡ codes "*") ⊎ ((place : ℕ) × OccursAt value tag place)

-- some value of the field names the tag
abbrev pub IsNamedBy : List ℕ → List FieldValue → Type 0
IsNamedBy tag [] = ⊥
IsNamedBy tag (value ∷ values) = IsNamedIn tag value.bytes ⊎ IsNamedBy tag values

abbrev pub IsNamed : List ℕ → Entries FieldValue → Type 0
IsNamed tag headers = IsNamedBy tag (get_all headers (codes "if-none-match"))
