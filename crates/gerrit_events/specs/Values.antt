-- What the values of Gerrit's JSON say ("JSON Data"). A number may also be written as a text.
use Rattle.std.specs.Prelude.{ℕ, ℤ, pos, negsuc, int_le, List, [], ◌∷◌, ◌++◌, length, Bool, ◌&&◌, nat_lt, if◌then◌else◌}
use Rattle.std.specs.Prelude.{Option, Some, None, option_and_then, option_map, codes}
use Rattle.std.specs.Option.{option_or}
use Rattle.std.specs.Str.{all_ascii_digits}
use Rattle.std.specs.Str.Parse.{without_leading_sign, signed_digits_value}
use Rattle.serde_json.specs.Data.{Data, null, boolean, number, string, array, object, Items, no_items, item}
use Rattle.serde_json.specs.Find.{get, as_i64, as_str}

-- what has this key, where it is an object that has it
abbrev pub under : List ℕ → Option Data → Option Data
under key found = option_and_then (get key) found

abbrev pub text_in : Option Data → Option (List ℕ)
text_in found = option_and_then as_str found

-- the items of a list; any other value is a list of itself, and nothing has no items
abbrev pub list_of : Items → List Data
list_of no_items = []
list_of (item d ds) = d ∷ list_of ds

abbrev pub alone_or_items : Data → List Data
alone_or_items null = null ∷ []
alone_or_items (boolean b) = boolean b ∷ []
alone_or_items (number n) = number n ∷ []
alone_or_items (string s) = string s ∷ []
alone_or_items (array ds) = list_of ds
alone_or_items (object ms) = object ms ∷ []

abbrev pub listed_values : Option Data → List Data
listed_values None = []
listed_values (Some d) = alone_or_items d

-- ---- numbers

-- one digit or more, and nothing else
abbrev pub is_numeral : List ℕ → Bool
is_numeral text = nat_lt 0 (length text) && all_ascii_digits text

-- the whole number that a text writes: digits, which may follow a sign
abbrev pub digits_written : List ℕ → Option ℤ
digits_written text = if is_numeral (without_leading_sign text) then Some (signed_digits_value 10 text) else None

abbrev pub whole_in : Data → Option ℤ
whole_in null = None
whole_in (boolean b) = None
whole_in (number n) = as_i64 n
whole_in (string s) = digits_written s
whole_in (array ds) = None
whole_in (object ms) = None

abbrev pub within : ℤ → ℤ → ℤ → Option ℤ
within low high z = if int_le low z && int_le z high then Some z else None

-- the whole number from `low` to `high` that a value says
abbrev pub whole_within : ℤ → ℤ → Option Data → Option ℤ
whole_within low high found = option_and_then (within low high) (option_and_then whole_in found)

-- the number that isn't below 0
abbrev pub unsigned_of : ℤ → ℕ
unsigned_of (pos n) = n
unsigned_of (negsuc n) = 0

-- the number of a change or of a patch set: from 1 to 4294967295
abbrev pub number_value : Option Data → Option ℕ
number_value found = option_map unsigned_of (whole_within (pos 1) (pos 4294967295) found)

-- the value of a vote: from -128 to 127
abbrev pub vote_value : Option Data → Option ℤ
vote_value found = whole_within (negsuc 127) (pos 127) found

-- ---- accounts

-- an email in angle brackets, so that it is no username: Gerrit's begin with a letter or a digit
abbrev pub email_voter : List ℕ → List ℕ
email_voter email = codes "<" ++ email ++ codes ">"

-- the username of an account, or the voter of its email where it has no username
abbrev pub user_in : Option Data → Option (List ℕ)
user_in account =
    option_or (text_in (under (codes "username") account))
    (option_map email_voter (text_in (under (codes "email") account)))
