-- What is written of a JSON text, as its tokens (RFC 8259), and the line that it is.
use Rattle.std.specs.Fmt.{signed_decimal}
use Rattle.std.specs.Prelude.{◌≡◌, ℕ, ℤ, List, [], ◌∷◌, ◌++◌, Bool, Option, None, Some, decimal, flat_map}
use Rattle.byte_ends.specs.Lines.{as_line}
use Rattle.json.specs.Lex.{tokens}
use Rattle.json.specs.Print.{print}
use Rattle.json.specs.Token.{Token, begin_array, begin_object, boolean, end_array, end_object, key, null, number, string}
use Rattle.json.specs.Written.{Written}

-- just these tokens are added
pub record AddsTokens (old new : Written) (added : List Token) : Type 0 where
  pub before : new.before ≡ old.before
  pub tokens : new.tokens ≡ old.tokens ++ added

-- a number under a key, a text, a flag, and a list of these tokens
abbrev pub numbered_tokens : List ℕ → ℕ → List Token
numbered_tokens name value = key name ∷ number (decimal value) ∷ []

abbrev pub worded : List ℕ → List ℕ → List Token
worded name value = key name ∷ string value ∷ []

abbrev pub flagged : List ℕ → Bool → List Token
flagged name value = key name ∷ boolean value ∷ []

abbrev pub listed_tokens : List ℕ → List Token → List Token
listed_tokens name items = key name ∷ begin_array ∷ [] ++ (items ++ end_array ∷ [])

-- the items of a list of texts, and of numbers
abbrev pub text_item : List ℕ → List Token
text_item text = string text ∷ []

abbrev pub number_item : ℕ → List Token
number_item value = number (decimal value) ∷ []

-- a list of texts under a key, and of numbers
abbrev pub texts_listed : List ℕ → List (List ℕ) → List Token
texts_listed name texts = listed_tokens name (flat_map text_item texts)

abbrev pub numbers_listed : List ℕ → List ℕ → List Token
numbers_listed name values = listed_tokens name (flat_map number_item values)

-- an object of these members
abbrev pub object_of : List Token → List Token
object_of members = begin_object ∷ [] ++ (members ++ end_object ∷ [])

-- a number that may have a sign under a key
abbrev pub signed : List ℕ → ℤ → List Token
signed name value = key name ∷ number (signed_decimal value) ∷ []

-- a number, or `null` where there is none
abbrev pub number_if : Option ℕ → Token
number_if None = null
number_if (Some value) = number (decimal value)

abbrev pub optional : List ℕ → Option ℕ → List Token
optional name value = key name ∷ number_if value ∷ []

-- a JSON reader finds these tokens in their text
abbrev pub AreReadBack : List Token → Type 0
AreReadBack written = tokens (print written) ≡ written

-- the text of tokens as a line, with its LF
abbrev pub json_line : List Token → List ℕ
json_line tokens = as_line (print tokens)
