-- The text of a check: a line for each condition, one for each warning, and `end` with how many there are of both.
use Rattle.std.specs.Prelude.{◌≡◌, ℕ, List, [], ◌++◌, Option, None, Some, codes, decimal, flat_map, length}
use Rattle.byte_ends.specs.Lines.{as_line}
use Rattle.gate_rules.specs.Rules.{GateRules}
use Rattle.json.specs.Token.{Token}
use Rattle.json_line.specs.Tokens.{json_line, listed_tokens, numbered_tokens, object_of, texts_listed, worded}
use Rattle.state_core.specs.State.{State}
use Rattle.gate_check.specs.Asking.{condition_lines}
use Rattle.gate_check.specs.Evidence.{Evidence, IsEvidenceIfAny}
use Rattle.gate_check.specs.Warnings.{Found, name_of, number_of, warning_line, warnings_of}

abbrev pub checked_line : ℕ → ℕ → List ℕ
checked_line conditions warnings = codes "end " ++ decimal conditions ++ codes " " ++ decimal warnings

abbrev pub as_warning : Found → List ℕ
as_warning found = as_line (warning_line found)

abbrev pub check_text : GateRules → Option Evidence → List ℕ
check_text gate evidence =
    flat_map as_line (condition_lines gate) ++ flat_map as_warning (warnings_of gate evidence)
    ++ as_line (checked_line (length (condition_lines gate)) (length (warnings_of gate evidence)))

-- ---- the same as JSON: {"conditions":["require /require/gerrit/open open"],"warnings":[{"number":1,..}]}

-- a text under a key, where there is one
abbrev pub worded_if : List ℕ → Option (List ℕ) → List Token
worded_if name None = []
worded_if name (Some text) = worded name text

-- {"number":2,"name":"UnknownLabel","place":"/require/gerrit/approval/0","about":"verifed","nearest":"verified"}
abbrev pub kind_tokens : Found → List Token
kind_tokens found =
    numbered_tokens (codes "number") (number_of found.warning)
    ++ (worded (codes "name") (name_of found.warning) ++ worded (codes "place") found.place)

abbrev pub detail_tokens : Found → List Token
detail_tokens found = worded_if (codes "about") found.about ++ worded_if (codes "nearest") found.nearest

abbrev pub warning_tokens : Found → List Token
warning_tokens found = object_of (kind_tokens found ++ detail_tokens found)

abbrev pub check_tokens : GateRules → Option Evidence → List Token
check_tokens gate evidence =
    object_of
    (texts_listed (codes "conditions") (condition_lines gate)
    ++ listed_tokens (codes "warnings") (flat_map warning_tokens (warnings_of gate evidence)))

abbrev pub check_line : GateRules → Option Evidence → List ℕ
check_line gate evidence = json_line (check_tokens gate evidence)

-- ---- a check

-- the text is that of a check of the gate, with the record of a state where one is given, and has so many warnings
abbrev pub IsCheck : (GateRules → Option Evidence → List ℕ) → GateRules → Option State → List ℕ → ℕ → Type 0
IsCheck shows gate state text count =
    (evidence : Option Evidence) × IsEvidenceIfAny gate state evidence
    × (text ≡ shows gate evidence) × (count ≡ length (warnings_of gate evidence))
