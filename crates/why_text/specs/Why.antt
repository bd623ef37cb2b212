-- Why an item is left out: the lines from it down to the cause, and what it is about. The form is the project's own.
use Rattle.std.specs.Prelude.{◌≡◌, ◌⊎◌, ℕ, List, [], ◌++◌, Option, None, Some, Contains, codes, decimal, flat_map}
use Rattle.std.specs.Fmt.{signed_decimal}
use Rattle.std.specs.FinMap as finite
use Rattle.serde_json.specs.Data.{Data, Members}
use Rattle.serde_json.specs.Written.{compact_text}
use Rattle.byte_ends.specs.Lines.{as_line}
use Rattle.change_core.specs.Change.{Change}
use Rattle.change_core.specs.Status.{status_name}
use Rattle.change_core.specs.Views.{IsGreatestKnown, status_of}
use Rattle.change_core.specs.Votes.{GivenApproval, approvals_of}
use Rattle.state_core.specs.State.{State}
use Rattle.state_core.specs.declared.item.Item.{Item}
use Rattle.gate_rules.specs.Rules.{GateRules}
use Rattle.gate_rules.specs.Spelling.{IsObject}
use Rattle.gate_rules.specs.declared.condition.Clause.{Clause}
use Rattle.gate_rules.specs.declared.condition.Clause.TheVariants.{OpenState, CurrentSet, StatusIn, Approval}
use Rattle.gate_rules.specs.declared.condition.Condition.{Condition}
use Rattle.ready_core.specs.Verdicts.{Judged}
use Rattle.ready_core.specs.declared.verdicts.Left.{Left}
use Rattle.ready_core.specs.declared.verdicts.Refusal.{Refusal}
use Rattle.ready_core.specs.declared.verdicts.Refusal.TheVariants.{Own, Cycle, Unknown, Dependency}
use Rattle.ready_core.specs.Words.{refusal_text}
use Rattle.report_text.specs.Report.{item_text}
use Rattle.why_text.specs.Chain.{IsChain}
use Rattle.why_text.specs.Cycle.{AreOnItsCycle}
use Rattle.gate_rules.specs.Wanted.{wanted_value}

-- ---- the lines of items

abbrev pub why_ready_line : Item → List ℕ
why_ready_line item = as_line (item_text item ++ codes " ready")

-- the item, and why it is left out
abbrev pub step_line : Left → List ℕ
step_line left = as_line (item_text left.item ++ codes " " ++ refusal_text left.refusal)

abbrev pub with_line : Item → List ℕ
with_line item = as_line (codes "with " ++ item_text item)

-- ---- what a condition asks, and what is there

-- the gate file's value as compact JSON
abbrev pub want_lines : Option Data → List ℕ
want_lines None = []
want_lines (Some value) = as_line (codes "want " ++ compact_text value)

abbrev pub why_status_line : Change → List ℕ
why_status_line change = as_line (codes "have " ++ status_name (status_of change))

abbrev pub current_line : ℕ → List ℕ
current_line set = as_line (codes "have " ++ decimal set)

-- the label, the voter and the value
abbrev pub approval_line : GivenApproval → List ℕ
approval_line approval =
    as_line
    (codes "have " ++ approval.label ++ codes " " ++ approval.voter ++ codes " " ++ signed_decimal approval.value)

-- what a change with this current patch set has of what the clause asks: its status, that patch set, or the approvals
-- on that, by label and voter
abbrev pub have_lines : Clause → Change → ℕ → List ℕ
have_lines OpenState change current = why_status_line change
have_lines CurrentSet change current = current_line current
have_lines StatusIn change current = why_status_line change
have_lines (Approval number) change current = flat_map approval_line (approvals_of change current)

-- the gate file has this value at the place of a condition, and the item is of this change, with this current patch set
pub record IsAskedOf
    (file : List ℕ) (state : State) (item : Item) (condition : Condition) (want : Option Data) (change : Change)
    (current : ℕ)
    : Type 0 where
  pub members : Members
  pub is_object : IsObject file members
  pub wanted : want ≡ wanted_value condition members
  pub there : finite.get state item.change ≡ Some change
  pub greatest : IsGreatestKnown change current

-- what the gate file asks, and what the item's change has
pub record WritesCondition (file : List ℕ) (state : State) (item : Item) (condition : Condition) (text : List ℕ)
    : Type 0 where
  pub want : Option Data
  pub change : Change
  pub current : ℕ
  pub asked : IsAskedOf file state item condition want change current
  pub lines : text ≡ want_lines want ++ have_lines condition.clause change current

-- ---- the lines of a cause

-- a line for each other item of a cycle
pub record WritesCycle (gate : GateRules) (state : State) (item : Item) (text : List ℕ) : Type 0 where
  pub others : List Item
  pub cycle : AreOnItsCycle gate state item others
  pub lines : text ≡ flat_map with_line others

abbrev pub WritesCause : List ℕ → GateRules → State → Item → Refusal → List ℕ → Type 0
WritesCause file gate state item (Own condition) text = WritesCondition file state item condition text
WritesCause file gate state item Cycle text = WritesCycle gate state item text
WritesCause file gate state item (Unknown number) text = text ≡ []
WritesCause file gate state item (Dependency number) text = text ≡ []

-- ---- the whole text

-- the item is left out: a line for it and each one after it down to the cause, and the lines of that
pub record IsLeftFor
    (file : List ℕ) (gate : GateRules) (state : State) (verdicts : Judged) (item : Item) (text : List ℕ) : Type 0 where
  pub first : Left
  pub out : Contains verdicts.out first
  pub of : first.item ≡ item
  pub waiting : List Left
  pub cause : Left
  pub chain : IsChain state verdicts first waiting cause
  pub details : List ℕ
  pub shown : WritesCause file gate state cause.item cause.refusal details
  pub lines : text ≡ flat_map step_line waiting ++ step_line cause ++ details

-- the item is ready; or it is left out, and why
abbrev pub IsWhy : List ℕ → GateRules → State → Judged → Item → List ℕ → Type 0
IsWhy file gate state verdicts item text =
    (Contains verdicts.ready item × (text ≡ why_ready_line item)) ⊎ IsLeftFor file gate state verdicts item text
