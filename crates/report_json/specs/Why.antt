-- Why an item waits as JSON, by its tokens: the same chain as the lines of `why`. The keys are the project's own.
use Rattle.std.specs.Prelude.{◌≡◌, ◌⊎◌, ℕ, true, not, List, [], ◌∷◌, ◌++◌, Option, None, Some, Contains}
use Rattle.std.specs.Prelude.{codes, flat_map}
use Rattle.serde_json.specs.Data.{Data}
use Rattle.serde_json.specs.Written.{compact_text}
use Rattle.json.specs.Lex.{tokens}
use Rattle.json.specs.Token.{Token, key}
use Rattle.json_line.specs.Tokens.{AreReadBack, flagged, json_line, listed_tokens, numbered_tokens, object_of, signed}
use Rattle.json_line.specs.Tokens.{worded}
use Rattle.change_core.specs.Change.{Change}
use Rattle.change_core.specs.Status.{status_name}
use Rattle.change_core.specs.Views.{status_of}
use Rattle.change_core.specs.Votes.{GivenApproval, approvals_of}
use Rattle.state_core.specs.State.{State}
use Rattle.state_core.specs.declared.item.Item.{Item}
use Rattle.gate_rules.specs.Rules.{GateRules}
use Rattle.gate_rules.specs.Tried.{AreTried}
use Rattle.gate_rules.specs.declared.condition.Clause.{Clause}
use Rattle.gate_rules.specs.declared.condition.Clause.TheVariants.{OpenState, CurrentSet, StatusIn, Approval}
use Rattle.gate_rules.specs.declared.condition.Condition.{Condition}
use Rattle.gate_rules.specs.declared.tried.Tried.{Tried}
use Rattle.ready_core.specs.Verdicts.{Judged}
use Rattle.ready_core.specs.Words.{refusal_text}
use Rattle.ready_core.specs.declared.verdicts.Left.{Left}
use Rattle.ready_core.specs.declared.verdicts.Refusal.{Refusal}
use Rattle.ready_core.specs.declared.verdicts.Refusal.TheVariants.{Own, Cycle, Unknown, Dependency}
use Rattle.why_text.specs.All.{WritesEach}
use Rattle.why_text.specs.Chain.{IsChainOf}
use Rattle.why_text.specs.Cycle.{AreOnItsCycle}
use Rattle.why_text.specs.Why.{IsAskedOf}
use Rattle.report_json.specs.Report.{item_tokens, out_tokens, ready_tokens, refusal_tokens, verdict_members}

-- ---- what a condition asks, and what is there

-- the gate file's value: "want":{"Verified":[1,2]}
abbrev pub want_tokens : Option Data → List Token
want_tokens None = []
want_tokens (Some value) = key (codes "want") ∷ tokens (compact_text value)

-- {"label":"verified","voter":"zuul","value":1}
abbrev pub vote_tokens : GivenApproval → List Token
vote_tokens approval =
    object_of
    (worded (codes "label") approval.label
    ++ (worded (codes "voter") approval.voter ++ signed (codes "value") approval.value))

abbrev pub votes_listed : List GivenApproval → List Token
votes_listed approvals = listed_tokens (codes "votes") (flat_map vote_tokens approvals)

-- what a change with this current patch set has of what the clause asks: its status, that patch set, or the approvals
-- on that, by label and voter
abbrev pub have_tokens : Clause → Change → ℕ → List Token
have_tokens OpenState change current = worded (codes "status") (status_name (status_of change))
have_tokens CurrentSet change current = numbered_tokens (codes "current") current
have_tokens StatusIn change current = worded (codes "status") (status_name (status_of change))
have_tokens (Approval number) change current = votes_listed (approvals_of change current)

pub record SaysCondition (file : List ℕ) (state : State) (item : Item) (condition : Condition) (added : List Token)
    : Type 0 where
  pub want : Option Data
  pub change : Change
  pub current : ℕ
  pub asked : IsAskedOf file state item condition want change current
  pub members : added ≡ want_tokens want ++ have_tokens condition.clause change current

-- ---- the items down to the cause

-- the other items of a cycle
pub record SaysCycle (gate : GateRules) (state : State) (item : Item) (added : List Token) : Type 0 where
  pub others : List Item
  pub cycle : AreOnItsCycle gate state item others
  pub members : added ≡ listed_tokens (codes "with") (flat_map ready_tokens others)

abbrev pub SaysCause : List ℕ → GateRules → State → Item → Refusal → List Token → Type 0
SaysCause file gate state item (Own condition) added = SaysCondition file state item condition added
SaysCause file gate state item Cycle added = SaysCycle gate state item added
SaysCause file gate state item (Unknown number) added = added ≡ []
SaysCause file gate state item (Dependency number) added = added ≡ []

-- the item and why it is left out, and what is said of that
abbrev pub cause_tokens : Left → List Token → List Token
cause_tokens cause details = object_of (item_tokens cause.item ++ (refusal_tokens cause.refusal ++ details))

-- an item that is left out, with its refusal, and under "why" it and each one after it down to the cause
pub record SaysLeft
    (file : List ℕ) (gate : GateRules) (state : State) (verdicts : Judged) (item : Item) (added : List Token)
    : Type 0 where
  pub waiting : List Left
  pub cause : Left
  pub chain : IsChainOf state verdicts item waiting cause
  pub details : List Token
  pub shown : SaysCause file gate state cause.item cause.refusal details
  pub members : added
      ≡ verdict_members chain.first
      ++ listed_tokens (codes "why") (flat_map out_tokens waiting ++ cause_tokens cause details)

abbrev pub ready_members : Item → List Token
ready_members item = item_tokens item ++ (flagged (codes "ready") true ++ listed_tokens (codes "why") [])

-- the item is ready; or it is left out, and why
abbrev pub SaysWhy : List ℕ → GateRules → State → Judged → Item → List Token → Type 0
SaysWhy file gate state verdicts item added =
    (Contains verdicts.ready item × (added ≡ ready_members item)) ⊎ SaysLeft file gate state verdicts item added

-- ---- each condition of the gate

-- the condition, whether the item meets it, and what is asked and what is there
pub record SaysTried (file : List ℕ) (state : State) (item : Item) (tried : Tried) (added : List Token) : Type 0 where
  pub details : List Token
  pub shown : SaysCondition file state item tried.condition details
  pub members : added
      ≡ object_of
      (worded (codes "condition") (refusal_text (Own tried.condition))
      ++ (flagged (codes "met") (not tried.is_broken) ++ details))

-- all conditions of the gate, in the order in which the item is judged
pub record SaysConditions (file : List ℕ) (gate : GateRules) (state : State) (item : Item) (added : List Token)
    : Type 0 where
  pub tried : List Tried
  pub are : AreTried gate state item tried
  pub objects : List Token
  pub each : WritesEach (SaysTried file state item) tried objects
  pub members : added ≡ listed_tokens (codes "conditions") objects

-- ---- the whole line

-- {"change":98,"set":3,"ready":false,"refusal":"require open","why":[{"change":98,"set":3,"refusal":"require open",
-- "want":true,"status":"MERGED"}]}
pub record IsWhyLine
    (file : List ℕ) (gate : GateRules) (state : State) (verdicts : Judged) (item : Item) (line : List ℕ) : Type 0 where
  pub reason : List Token
  pub is_reason : SaysWhy file gate state verdicts item reason
  pub text : line ≡ json_line (object_of reason)
  pub reads : AreReadBack (object_of reason)

-- the same, and then each condition of the gate
pub record IsFullWhyLine
    (file : List ℕ) (gate : GateRules) (state : State) (verdicts : Judged) (item : Item) (line : List ℕ) : Type 0 where
  pub reason : List Token
  pub is_reason : SaysWhy file gate state verdicts item reason
  pub more : List Token
  pub is_more : SaysConditions file gate state item more
  pub text : line ≡ json_line (object_of (reason ++ more))
  pub reads : AreReadBack (object_of (reason ++ more))
