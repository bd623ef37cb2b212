-- What each condition of a gate asks, in words: a line with the side, the condition's place in the gate file and the
-- words. The conditions are those of Zuul's Gerrit driver (zuul-ci.org/docs, "Gerrit", pipeline requirements); the
-- words are the project's own.
use Rattle.std.specs.Prelude.{ℕ, suc, List, [], ◌∷◌, ◌++◌, Bool, true, false, Option, None, Some, codes, decimal}
use Rattle.std.specs.Prelude.{encode_utf8, flat_map, map, if◌then◌else◌, ◌==◌}
use Rattle.std.specs.Fmt.{signed_decimal}
use Rattle.std.specs.Str.{chars}
use Rattle.json.specs.Print.{quoted}
use Rattle.gate_rules.specs.Own.{side_rules}
use Rattle.gate_rules.specs.Rules.{GateRules, LabelRule, PatternRule}
use Rattle.gate_rules.specs.Words.{side_name}
use Rattle.gate_rules.specs.declared.condition.Side.{Side}
use Rattle.gate_rules.specs.declared.condition.Side.TheVariants.{Require, Reject}

-- ---- lists

-- the texts with the separator between each two, or `none` where there are no texts
abbrev pub joined_by : List ℕ → List ℕ → List (List ℕ) → List ℕ
joined_by none separator [] = none
joined_by none separator (text ∷ texts) = text ++ flat_map (λ other. separator ++ other) texts

-- what is made of each element by its place, which is counted from the first one's
abbrev pub by_place : {X Y : Type 0} → (ℕ → X → List Y) → ℕ → List X → List Y
by_place make first [] = []
by_place make first (x ∷ xs) = make first x ++ by_place make (suc first) xs

-- what is made of an element, where there is one
abbrev pub made_of : {X Y : Type 0} → (X → List Y) → Option X → List Y
made_of make None = []
made_of make (Some x) = make x

-- ---- places

-- a character of a connection's name in a JSON pointer (RFC 6901, section 3)
abbrev pub pointer_escaped : ℕ → List ℕ
pointer_escaped letter =
    if letter == 126 then codes "~0" else if letter == 47 then codes "~1" else encode_utf8 letter

-- the place of a key among the conditions of a side, as a JSON pointer
abbrev pub pointer_of : GateRules → Side → List ℕ → List ℕ
pointer_of gate side key =
    codes "/" ++ side_name side ++ codes "/" ++ flat_map pointer_escaped (chars gate.connection) ++ codes "/" ++ key

-- an approval has its place in the list of them, and one that is alone is the first of the list of it
abbrev pub approval_pointer : ℕ → List ℕ
approval_pointer place = codes "approval/" ++ decimal place

-- ---- words

abbrev pub open_words : Bool → List ℕ
open_words true = codes "open"
open_words false = codes "not open"

abbrev pub current_words : Bool → List ℕ
current_words true = codes "current patch set"
current_words false = codes "not the current patch set"

-- `status "NEW" or "MERGED"`
abbrev pub status_words : List (List ℕ) → List ℕ
status_words texts = codes "status " ++ joined_by (codes "none") (codes " or ") (map quoted texts)

-- `verified 1 or 2`
abbrev pub label_words : LabelRule → List ℕ
label_words rule = rule.label ++ codes " " ++ joined_by (codes "none") (codes " or ") (map signed_decimal rule.values)

-- ` by "zuul"`, where a voter is named
abbrev pub voter_words : Option (List ℕ) → List ℕ
voter_words None = []
voter_words (Some voter) = codes " by " ++ quoted voter

-- `verified 1 or 2 by "zuul"`
abbrev pub pattern_words : PatternRule → List ℕ
pattern_words pattern =
    joined_by (codes "any vote") (codes " and ") (map label_words pattern.labels) ++ voter_words pattern.username

-- ---- lines

abbrev pub condition_line : GateRules → Side → List ℕ → List ℕ → List ℕ
condition_line gate side key words = side_name side ++ codes " " ++ pointer_of gate side key ++ codes " " ++ words

abbrev pub open_lines : GateRules → Side → List (List ℕ)
open_lines gate side =
    made_of (λ asked. condition_line gate side (codes "open") (open_words asked) ∷ []) (side_rules gate side).is_open

abbrev pub current_lines : GateRules → Side → List (List ℕ)
current_lines gate side =
    made_of (λ asked. condition_line gate side (codes "current-patchset") (current_words asked) ∷ [])
    (side_rules gate side).is_current

abbrev pub status_lines : GateRules → Side → List (List ℕ)
status_lines gate side =
    made_of (λ texts. condition_line gate side (codes "status") (status_words texts) ∷ []) (side_rules gate side).status

abbrev pub pattern_line : GateRules → Side → ℕ → PatternRule → List ℕ
pattern_line gate side place pattern = condition_line gate side (approval_pointer place) (pattern_words pattern)

abbrev pub approval_lines : GateRules → Side → ℕ → PatternRule → List (List ℕ)
approval_lines gate side place pattern = pattern_line gate side place pattern ∷ []

-- the conditions of a side, in the order in which items are judged by them
abbrev pub side_lines : GateRules → Side → List (List ℕ)
side_lines gate side =
    open_lines gate side ++ current_lines gate side ++ status_lines gate side
    ++ by_place (approval_lines gate side) 0 (side_rules gate side).approvals

-- a line for each condition: what is required, then what is rejected
abbrev pub condition_lines : GateRules → List (List ℕ)
condition_lines gate = side_lines gate Require ++ side_lines gate Reject
