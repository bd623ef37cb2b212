-- What looks mistaken in a gate: warnings, each with its number and name, the place of the condition, what it is about,
-- and the nearest name that there is.
use Rattle.std.specs.Prelude.{ℕ, List, [], ◌∷◌, ◌++◌, Bool, not, ◌&&◌, ◌||◌, Option, None, Some, codes}
use Rattle.std.specs.Prelude.{decimal, flat_map, if◌then◌else◌, length, map, nat_eq, nat_le, slice_get}
use Rattle.std.specs.Char.{is_ascii_graphic}
use Rattle.std.specs.List.{list_all}
use Rattle.std.specs.Str.{bytes_eq}
use Rattle.json.specs.Print.{quoted}
use Rattle.change_core.specs.Status.{status_name}
use Rattle.change_core.specs.declared.life.Status.TheVariants.{New, Abandoned, Merged}
use Rattle.gate_rules.specs.Own.{side_rules, some}
use Rattle.gate_rules.specs.Rules.{GateRules, LabelRule, PatternRule}
use Rattle.gate_rules.specs.declared.condition.Side.{Side}
use Rattle.gate_rules.specs.declared.condition.Side.TheVariants.{Require, Reject}
use Rattle.gate_check.specs.Asking.{approval_pointer, by_place, pointer_of}
use Rattle.gate_check.specs.Meeting.{is_current_never_met, is_never_met, is_open_never_met, is_status_never_met}
use Rattle.gate_check.specs.Meeting.{rejects_nothing}
use Rattle.gate_check.specs.Evidence.{Evidence, names_shown_by}
use Rattle.gate_check.specs.Names.{KnownNames, has_known}
use Rattle.gate_check.specs.Nearest.{nearest}
use Rattle.gate_check.specs.declared.warning.Warning.{Warning}
use Rattle.gate_check.specs.declared.warning.Warning.TheVariants.{IgnoredFooter, NeverMet, NoStatus, NoVoter, Pattern}
use Rattle.gate_check.specs.declared.warning.Warning.TheVariants.{RejectsNothing, UnknownLabel, UnknownVoter}
use Rattle.gate_check.specs.declared.warning.Warning.TheVariants.{UnusedBase}

abbrev pub number_of : Warning → ℕ
number_of Pattern = 1
number_of UnknownLabel = 2
number_of UnknownVoter = 3
number_of NeverMet = 4
number_of UnusedBase = 5
number_of NoVoter = 6
number_of IgnoredFooter = 7
number_of RejectsNothing = 8
number_of NoStatus = 9

abbrev pub name_of : Warning → List ℕ
name_of Pattern = codes "Pattern"
name_of UnknownLabel = codes "UnknownLabel"
name_of UnknownVoter = codes "UnknownVoter"
name_of NeverMet = codes "NeverMet"
name_of UnusedBase = codes "UnusedBase"
name_of NoVoter = codes "NoVoter"
name_of IgnoredFooter = codes "IgnoredFooter"
name_of RejectsNothing = codes "RejectsNothing"
name_of NoStatus = codes "NoStatus"

-- a warning: its kind, a place of the gate file, what it is about, where it is about something, and the nearest name
-- that there is, where one is near enough
pub record Found : Type 0 where
  pub warning : Warning
  pub place : List ℕ
  pub about : Option (List ℕ)
  pub nearest : Option (List ℕ)

abbrev pub about_words : Option (List ℕ) → List ℕ
about_words None = []
about_words (Some text) = codes " " ++ quoted text

abbrev pub nearest_words : Option (List ℕ) → List ℕ
nearest_words None = []
nearest_words (Some text) = codes " nearest " ++ quoted text

abbrev pub warning_line : Found → List ℕ
warning_line found =
    codes "warning " ++ decimal (number_of found.warning) ++ codes " " ++ name_of found.warning ++ codes " "
    ++ found.place ++ about_words found.about ++ nearest_words found.nearest

-- one of a place alone, one that is about a text, and one of a name that isn't among these
abbrev pub of_place : Warning → List ℕ → Found
of_place warning place = record { warning = warning; place = place; about = None; nearest = None }

abbrev pub about_text : Warning → List ℕ → List ℕ → Found
about_text warning place text = record { warning = warning; place = place; about = Some text; nearest = None }

abbrev pub not_among : Warning → List ℕ → List (List ℕ) → List ℕ → Found
not_among warning place names name =
    record { warning = warning; place = place; about = Some name; nearest = nearest name names }

-- this warning, or none
abbrev pub warned : Bool → Found → List Found
warned is_so found = if is_so then found ∷ [] else []

-- ---- 1 Pattern: the username has a character that a regular expression would have, and is compared as it is

abbrev pub is_sign : ℕ → Bool
is_sign byte = some (nat_eq byte) (codes "^$*+?()[]{}|\\")

abbrev pub pattern_warnings : List ℕ → Option (List ℕ) → List Found
pattern_warnings place None = []
pattern_warnings place (Some voter) = warned (some is_sign voter) (about_text Pattern place voter)

-- ---- 2 UnknownLabel and 3 UnknownVoter: no vote of the record has the label, or the voter

abbrev pub unknown_name : Warning → List ℕ → List (List ℕ) → List ℕ → List Found
unknown_name warning place names name = warned (not (has_known names name)) (not_among warning place names name)

abbrev pub label_warning : List ℕ → KnownNames → LabelRule → List Found
label_warning place names rule = unknown_name UnknownLabel place names.labels rule.label

abbrev pub voter_warnings : List ℕ → KnownNames → Option (List ℕ) → List Found
voter_warnings place names None = []
voter_warnings place names (Some voter) = unknown_name UnknownVoter place names.voters voter

-- of a pattern, where a record is named
abbrev pub unknown_warnings : List ℕ → Option KnownNames → PatternRule → List Found
unknown_warnings place None pattern = []
unknown_warnings place (Some names) pattern =
    flat_map (label_warning place names) pattern.labels ++ voter_warnings place names pattern.username

-- ---- 4 NeverMet: what is asked can't be met beside the other conditions

abbrev pub never_met : Bool → List ℕ → List Found
never_met is_so place = warned is_so (of_place NeverMet place)

-- ---- 5 UnusedBase: no footer of the record has the base, while one has a URL that is under none

abbrev pub base_place : ℕ → List ℕ
base_place place = codes "/bases/" ++ decimal place

abbrev pub base_warning : GateRules → ℕ → Bool → List Found
base_warning gate place is_so = warned is_so (record {
  warning = UnusedBase;
  place = base_place place;
  about = slice_get gate.bases place;
  nearest = None;
})

-- of each base, where a record is named
abbrev pub base_warnings : GateRules → Option Evidence → List Found
base_warnings gate None = []
base_warnings gate (Some evidence) = by_place (base_warning gate) 0 evidence.unused

-- ---- 6 NoVoter: nobody can have the username, so that no vote is by it

abbrev pub can_vote : List ℕ → Bool
can_vote name = nat_le 1 (length name) && nat_le (length name) 64 && list_all is_ascii_graphic name

abbrev pub nobody_warnings : List ℕ → Option (List ℕ) → List Found
nobody_warnings place None = []
nobody_warnings place (Some voter) = warned (not (can_vote voter)) (about_text NoVoter place voter)

-- ---- 7 IgnoredFooter: a footer of the record has this value, which begins with a base and yet names no change

abbrev pub footer_warning : List ℕ → Found
footer_warning value = about_text IgnoredFooter (codes "/bases") value

-- of each such value, where a record is named
abbrev pub footer_warnings : Option Evidence → List Found
footer_warnings None = []
footer_warnings (Some evidence) = map footer_warning evidence.ignored

-- ---- 8 RejectsNothing: an approval that is rejected accepts no vote

abbrev pub nothing_rejected : Bool → List ℕ → List Found
nothing_rejected is_so place = warned is_so (of_place RejectsNothing place)

-- ---- 9 NoStatus: no change has the status (Gerrit's "ChangeStatus": NEW, MERGED and ABANDONED)

abbrev pub is_status_name : List ℕ → Bool
is_status_name name =
    bytes_eq name (status_name New) || (bytes_eq name (status_name Merged) || bytes_eq name (status_name Abandoned))

abbrev pub status_warning : List ℕ → List ℕ → List Found
status_warning place name = warned (not (is_status_name name)) (about_text NoStatus place name)

-- of each name that is asked for at a place
abbrev pub status_warnings : List ℕ → Option (List (List ℕ)) → List Found
status_warnings place None = []
status_warnings place (Some names) = flat_map (status_warning place) names

-- ---- the warnings of a gate

-- of a username, whatever a record has
abbrev pub username_warnings : List ℕ → Option (List ℕ) → List Found
username_warnings place username = pattern_warnings place username ++ nobody_warnings place username

-- of the votes that an approval at a place accepts: one that is required is never met, one that is rejected rejects
-- nothing
abbrev pub vote_warnings : GateRules → Side → List ℕ → PatternRule → List Found
vote_warnings gate side place pattern =
    never_met (is_never_met gate side pattern) place ++ nothing_rejected (rejects_nothing side pattern) place

-- of an approval at a place
abbrev pub warnings_at : GateRules → Option KnownNames → Side → List ℕ → PatternRule → List Found
warnings_at gate names side place pattern =
    username_warnings place pattern.username ++ unknown_warnings place names pattern
    ++ vote_warnings gate side place pattern

abbrev pub approval_warnings : GateRules → Option KnownNames → Side → ℕ → PatternRule → List Found
approval_warnings gate names side number pattern =
    warnings_at gate names side (pointer_of gate side (approval_pointer number)) pattern

-- of what a side asks under a key
abbrev pub key_warnings : GateRules → Side → List ℕ → Bool → List Found
key_warnings gate side key is_so = never_met is_so (pointer_of gate side key)

-- of a side's conditions before the approvals
abbrev pub first_warnings : GateRules → Side → List Found
first_warnings gate side =
    key_warnings gate side (codes "open") (is_open_never_met gate side)
    ++ key_warnings gate side (codes "current-patchset") (is_current_never_met gate side)
    ++ key_warnings gate side (codes "status") (is_status_never_met gate side)

-- of the statuses that a side asks for
abbrev pub asked_statuses : GateRules → Side → List Found
asked_statuses gate side = status_warnings (pointer_of gate side (codes "status")) (side_rules gate side).status

-- of a side's conditions
abbrev pub side_warnings : GateRules → Option KnownNames → Side → List Found
side_warnings gate names side =
    first_warnings gate side ++ asked_statuses gate side
    ++ by_place (approval_warnings gate names side) 0 (side_rules gate side).approvals

-- condition by condition, as items are judged by them
abbrev pub condition_warnings : GateRules → Option KnownNames → List Found
condition_warnings gate names = side_warnings gate names Require ++ side_warnings gate names Reject

-- those of the conditions, then those of the bases, and then those of footers
abbrev pub warnings_of : GateRules → Option Evidence → List Found
warnings_of gate evidence =
    condition_warnings gate (names_shown_by evidence) ++ base_warnings gate evidence ++ footer_warnings evidence
