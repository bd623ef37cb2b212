-- What a gate asks at the place of a condition, in words in HTML. The words are the project's own.
use Rattle.std.specs.Prelude.{ℕ, ℤ, ◌-◌, Bool, true, false, List, [], ◌∷◌, ◌++◌, Option, None, Some, codes, map}
use Rattle.std.specs.Prelude.{slice_get}
use Rattle.std.specs.Fmt.{signed_decimal}
use Rattle.gate_rules.specs.Own.{side_rules}
use Rattle.gate_rules.specs.Rules.{GateRules, LabelRule, PatternRule, SideRules}
use Rattle.gate_rules.specs.declared.condition.Clause.{Clause}
use Rattle.gate_rules.specs.declared.condition.Clause.TheVariants.{OpenState, CurrentSet, StatusIn, Approval}
use Rattle.gate_rules.specs.declared.condition.Condition.{Condition}
use Rattle.markup_text.specs.Html.{html_of}

abbrev pub open_phrase : Option Bool → List ℕ
open_phrase (Some false) = codes "not open"
open_phrase (Some true) = codes "open"
open_phrase None = codes "open"

abbrev pub current_phrase : Option Bool → List ℕ
current_phrase (Some false) = codes "not the current patch set"
current_phrase (Some true) = codes "the current patch set"
current_phrase None = codes "the current patch set"

-- texts, the first one behind this, and each further one behind that
abbrev pub separated : List ℕ → List ℕ → List (List ℕ) → List ℕ
separated first next [] = []
separated first next (text ∷ texts) = first ++ text ++ separated next next texts

-- one of these statuses
abbrev pub statuses_html : List (List ℕ) → List ℕ
statuses_html texts = separated (codes " ") (codes " or ") (map html_of texts)

abbrev pub status_html : Option (List (List ℕ)) → List ℕ
status_html None = codes "status"
status_html (Some texts) = codes "status" ++ statuses_html texts

-- a label with one of its values
abbrev pub values_html : List ℤ → List ℕ
values_html values = separated (codes " ") (codes " or ") (map signed_decimal values)

abbrev pub label_html : LabelRule → List ℕ
label_html rule = html_of rule.label ++ values_html rule.values

-- all of these labels; where there is none, any vote
abbrev pub any_html : List LabelRule → List ℕ
any_html [] = codes "any vote"
any_html (rule ∷ rules) = []

abbrev pub labels_html : List LabelRule → List ℕ
labels_html rules = separated [] (codes " and ") (map label_html rules)

abbrev pub voter_html : Option (List ℕ) → List ℕ
voter_html None = []
voter_html (Some voter) = codes " by " ++ html_of voter

abbrev pub pattern_html : PatternRule → List ℕ
pattern_html pattern = any_html pattern.labels ++ labels_html pattern.labels ++ voter_html pattern.username

-- the approval of this number, from 1
abbrev pub approval_html : Option PatternRule → List ℕ
approval_html None = []
approval_html (Some pattern) = pattern_html pattern

abbrev pub clause_html : SideRules → Clause → List ℕ
clause_html rules OpenState = open_phrase rules.is_open
clause_html rules CurrentSet = current_phrase rules.is_current
clause_html rules StatusIn = status_html rules.status
clause_html rules (Approval number) = approval_html (slice_get rules.approvals (number - 1))

abbrev pub wanted_html : GateRules → Condition → List ℕ
wanted_html gate condition = clause_html (side_rules gate condition.side) condition.clause
