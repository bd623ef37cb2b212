-- An item's own condition: the first condition of a gate that it breaks. The conditions and what they compare are those
-- of Zuul's Gerrit driver (zuul-ci.org/docs, "Gerrit"); their order, and what an empty approval and one with two labels
-- match, are this project's own.
use Rattle.std.specs.Prelude.{◌≡◌, ◌≢◌, ◌<◌, ℕ, zero, suc, ◌==◌, List, [], ◌∷◌, Bool, true, false, not, ◌&&◌, nat_lt}
use Rattle.std.specs.Prelude.{Option, Some, None, MatchOption, option_map, slice_get, if◌then◌else◌}
use Rattle.std.specs.Ordering.{int_eq}
use Rattle.std.specs.Str.{bytes_eq}
use Rattle.std.specs.FinMap as finite
use Rattle.change_core.specs.Change.{Change}
use Rattle.change_core.specs.Status.{status_name}
use Rattle.change_core.specs.Views.{status_of, IsGreatestKnown}
use Rattle.change_core.specs.Votes.{GivenApproval, approvals_of}
use Rattle.change_core.specs.declared.life.Status.{Status}
use Rattle.change_core.specs.declared.life.Status.TheVariants.{New, Abandoned, Merged}
use Rattle.state_core.specs.State.{State}
use Rattle.state_core.specs.declared.item.Item.{Item}
use Rattle.gate_rules.specs.declared.condition.Side.{Side}
use Rattle.gate_rules.specs.declared.condition.Side.TheVariants.{Require, Reject}
use Rattle.gate_rules.specs.declared.condition.Clause.{Clause}
use Rattle.gate_rules.specs.declared.condition.Clause.TheVariants.{OpenState, CurrentSet, StatusIn, Approval}
use Rattle.gate_rules.specs.declared.condition.Condition.{Condition}
use Rattle.gate_rules.specs.Rules.{LabelRule, PatternRule, SideRules, GateRules}

-- what conditions compare: the change's status, whether it is open, whether the item is the current patch set, and the
-- approvals on that
pub record ItemStanding : Type 0 where
  pub status : List ℕ
  pub is_open : Bool
  pub is_current : Bool
  pub approvals : List GivenApproval

abbrev pub is_new : Status → Bool
is_new New = true
is_new Abandoned = false
is_new Merged = false

-- the standing of a patch set of a change with this current patch set
abbrev pub standing_of : Change → ℕ → ℕ → ItemStanding
standing_of change current set = record {
  status = status_name (status_of change);
  is_open = is_new (status_of change);
  is_current = set == current;
  approvals = approvals_of change current;
}

-- some element passes the test
abbrev pub some : {A : Type 0} → (A → Bool) → List A → Bool
some test [] = false
some test (x ∷ xs) = if test x then true else some test xs

abbrev pub same_flag : Bool → Bool → Bool
same_flag true b = b
same_flag false b = not b

-- ---- which approvals a pattern matches

abbrev pub names : Option (List ℕ) → List ℕ → Bool
names None voter = true
names (Some username) voter = bytes_eq username voter

abbrev pub takes : LabelRule → GivenApproval → Bool
takes rule approval = bytes_eq rule.label approval.label && some (λ value. int_eq value approval.value) rule.values

-- a pattern without a label takes each, and one with two labels none
abbrev pub labels_take : List LabelRule → GivenApproval → Bool
labels_take [] approval = true
labels_take (rule ∷ []) approval = takes rule approval
labels_take (rule ∷ other ∷ rest) approval = false

abbrev pub matches : PatternRule → GivenApproval → Bool
matches pattern approval = names pattern.username approval.voter && labels_take pattern.labels approval

-- ---- which conditions are broken

abbrev pub approval_at : List PatternRule → ℕ → Option PatternRule
approval_at patterns zero = None
approval_at patterns (suc k) = slice_get patterns k

-- whether a condition holds, where the side has it
abbrev pub compared : SideRules → ItemStanding → Clause → Option Bool
compared rules standing OpenState = option_map (same_flag standing.is_open) rules.is_open
compared rules standing CurrentSet = option_map (same_flag standing.is_current) rules.is_current
compared rules standing StatusIn = option_map (some (bytes_eq standing.status)) rules.status
compared rules standing (Approval k) =
    option_map (λ pattern. some (matches pattern) standing.approvals) (approval_at rules.approvals k)

abbrev pub side_rules : GateRules → Side → SideRules
side_rules gate Require = gate.require
side_rules gate Reject = gate.reject

-- what is required must hold, and what is rejected must not
abbrev pub breaking : Side → Bool
breaking Require = false
breaking Reject = true

-- the gate has the condition, and it doesn't hold where it is required, or holds where it is rejected
abbrev pub IsBroken : GateRules → ItemStanding → Condition → Type 0
IsBroken gate standing condition =
    compared (side_rules gate condition.side) standing condition.clause ≡ Some (breaking condition.side)

-- ---- their order

abbrev pub clause_before : Clause → Clause → Bool
clause_before OpenState OpenState = false
clause_before OpenState later = true
clause_before CurrentSet OpenState = false
clause_before CurrentSet CurrentSet = false
clause_before CurrentSet later = true
clause_before StatusIn (Approval k) = true
clause_before StatusIn other = false
clause_before (Approval j) (Approval k) = nat_lt j k
clause_before (Approval j) other = false

-- the clauses decide within a side
abbrev pub side_before : Side → Side → Bool → Bool
side_before Require Require clauses = clauses
side_before Require Reject clauses = true
side_before Reject Require clauses = false
side_before Reject Reject clauses = clauses

abbrev pub before : Condition → Condition → Bool
before a b = side_before a.side b.side (clause_before a.clause b.clause)

-- this clause compares so, and none before it does
pub record IsFirstWith (rules : SideRules) (standing : ItemStanding) (wanted : Bool) (clause : Clause) : Type 0 where
  pub here : compared rules standing clause ≡ Some wanted
  pub first : (other : Clause) → clause_before other clause ≡ true → compared rules standing other ≢ Some wanted

-- this approval compares so, and none before it does
pub record IsFirstApproval (rules : SideRules) (standing : ItemStanding) (wanted : Bool) (clause : Clause) : Type 0 where
  pub number : ℕ
  pub is : clause ≡ Approval number
  pub here : compared rules standing (Approval number) ≡ Some wanted
  pub first : (other : ℕ) → other < number → compared rules standing (Approval other) ≢ Some wanted

-- this condition is broken, and none before it is
pub record IsFirstBroken (gate : GateRules) (standing : ItemStanding) (condition : Condition) : Type 0 where
  pub here : IsBroken gate standing condition
  pub first : (other : Condition) → before other condition ≡ true → ¬ IsBroken gate standing other

-- an item's own condition, over the state of its change: the first that it breaks, or none where it breaks none; of an
-- item that isn't one of the state this says nothing
abbrev pub IsOwn : GateRules → State → Item → Option Condition → Type 0
IsOwn gate state item own =
    (change : Change) (current : ℕ) → finite.get state item.change ≡ Some change → IsGreatestKnown change current
    → MatchOption own
    ((condition : Condition) → ¬ IsBroken gate (standing_of change current item.set) condition)
    (IsFirstBroken gate (standing_of change current item.set))
