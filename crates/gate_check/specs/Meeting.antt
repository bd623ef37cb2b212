-- Which conditions of a gate no item can meet beside the gate's others, and which approvals reject nothing.
use Rattle.std.specs.Prelude.{◌≡◌, ℕ, ℤ, pos, List, [], ◌∷◌, Bool, true, false, not, ◌&&◌, ◌||◌, Option, None, Some}
use Rattle.std.specs.Prelude.{is_some}
use Rattle.std.specs.Prelude.{All, FitsSigned, unwrap_or}
use Rattle.std.specs.Int.{w8}
use Rattle.std.specs.Ordering.{int_eq}
use Rattle.change_core.specs.Change.{Change}
use Rattle.change_core.specs.Status.{status_name}
use Rattle.change_core.specs.Votes.{GivenApproval}
use Rattle.change_core.specs.declared.life.Status.{Status}
use Rattle.change_core.specs.declared.life.Status.TheVariants.{New, Abandoned, Merged}
use Rattle.gate_rules.specs.Own.{IsBroken, ItemStanding, compared, is_new, matches, names, same_flag, some}
use Rattle.gate_rules.specs.Own.{side_rules, standing_of}
use Rattle.gate_rules.specs.Reading.{each}
use Rattle.gate_rules.specs.Rules.{GateRules, LabelRule, PatternRule, SideRules}
use Rattle.gate_rules.specs.declared.condition.Clause.TheVariants.{OpenState, StatusIn}
use Rattle.gate_rules.specs.declared.condition.Condition.{Condition}
use Rattle.gate_rules.specs.declared.condition.Side.{Side}
use Rattle.gate_rules.specs.declared.condition.Side.TheVariants.{Require, Reject}
use Rattle.review_ops.specs.Deed.{vote}
use Rattle.review_ops.specs.Good.{IsGood, IsKeptLabel}

-- ---- the status

-- an item of a change with this status, on whose current patch set nobody voted
abbrev pub standing_with : Status → ItemStanding
standing_with status =
    record { status = status_name status; is_open = is_new status; is_current = true; approvals = [] }

-- what is compared, where it is, comes out as wanted
abbrev pub comes_out : Bool → Option Bool → Bool
comes_out wanted None = true
comes_out wanted (Some so) = same_flag wanted so

-- the conditions on a change's status let a change of this status in
abbrev pub lets_in : GateRules → Status → Bool
lets_in gate status = let standing = standing_with status in
    comes_out true (compared gate.require standing OpenState) && comes_out true
    (compared gate.require standing StatusIn)
    && comes_out false (compared gate.reject standing OpenState)
    && comes_out false (compared gate.reject standing StatusIn)

-- they let no change in
abbrev pub lets_none_in : GateRules → Bool
lets_none_in gate = not (lets_in gate New || lets_in gate Abandoned || lets_in gate Merged)

-- ---- the current patch set

-- the same is required and rejected
abbrev pub same_answer : Option Bool → Option Bool → Bool
same_answer None rejected = false
same_answer (Some required) None = false
same_answer (Some required) (Some rejected) = same_flag required rejected

-- ---- approvals

-- the vote of this label and value by the voter whom the pattern names, if it names one
abbrev pub wanted_vote : PatternRule → List ℕ → ℤ → GivenApproval
wanted_vote pattern label value = record { label = label; voter = unwrap_or pattern.username []; value = value }

-- it takes every voter whom the pattern takes, if it takes the one who is named
abbrev pub is_as_wide : PatternRule → PatternRule → Bool
is_as_wide other pattern = not (is_some other.username) || is_some pattern.username

-- a vote of 0 is a withdrawn one, and so none
abbrev pub is_no_vote : ℤ → Bool
is_no_vote value = int_eq value (pos 0)

-- the votes of this label and value that the pattern takes are rejected, or there are none
abbrev pub rejects_votes : List PatternRule → PatternRule → List ℕ → ℤ → Bool
rejects_votes rejected pattern label value =
    is_no_vote value || some
    (λ other. is_as_wide other pattern && matches other (wanted_vote pattern label value)) rejected

abbrev pub has_none : {A : Type 0} → List A → Bool
has_none [] = true
has_none (x ∷ xs) = false

-- votes of every label are
abbrev pub rejects_any_label : List PatternRule → PatternRule → Bool
rejects_any_label rejected pattern =
    some (λ other. is_as_wide other pattern && names other.username (unwrap_or pattern.username []) && has_none other.labels)
    rejected

-- every vote that the pattern takes is rejected; one with two labels takes none
abbrev pub rejects_each : List PatternRule → PatternRule → List LabelRule → Bool
rejects_each rejected pattern [] = rejects_any_label rejected pattern
rejects_each rejected pattern (rule ∷ []) = each (rejects_votes rejected pattern rule.label) rule.values
rejects_each rejected pattern (rule ∷ other ∷ rules) = true

-- ---- the conditions of a gate

-- a side asks something of the status
abbrev pub asks_status : SideRules → Bool
asks_status rules = is_some rules.is_open || is_some rules.status

-- that no change is let in is said of what is required of the status, and where nothing is, of what is rejected
abbrev pub shuts_out : GateRules → Side → Bool
shuts_out gate Require = lets_none_in gate
shuts_out gate Reject = not (asks_status gate.require) && lets_none_in gate

abbrev pub is_open_never_met : GateRules → Side → Bool
is_open_never_met gate side = is_some (side_rules gate side).is_open && shuts_out gate side

-- what is rejected of the current patch set lets others in
abbrev pub is_current_never_met : GateRules → Side → Bool
is_current_never_met gate Require = same_answer gate.require.is_current gate.reject.is_current
is_current_never_met gate Reject = false

abbrev pub is_status_never_met : GateRules → Side → Bool
is_status_never_met gate side = is_some (side_rules gate side).status && shuts_out gate side

-- an approval: only one that is required is to be met
abbrev pub is_never_met : GateRules → Side → PatternRule → Bool
is_never_met gate Require pattern = rejects_each gate.reject.approvals pattern pattern.labels
is_never_met gate Reject pattern = false

-- ---- an approval that rejects nothing

-- a pattern with these labels takes no vote: it has two of them, or one that has no value but 0
abbrev pub takes_no_vote : List LabelRule → Bool
takes_no_vote [] = false
takes_no_vote (rule ∷ []) = each is_no_vote rule.values
takes_no_vote (rule ∷ other ∷ rules) = true

-- one that is rejected
abbrev pub rejects_nothing : Side → PatternRule → Bool
rejects_nothing Require pattern = false
rejects_nothing Reject pattern = takes_no_vote pattern.labels

-- ---- what the tests mean

-- an item of any change breaks some condition of the gate
abbrev pub LetsNothingIn : GateRules → Type 0
LetsNothingIn gate = (change : Change) (current set : ℕ)
    → (condition : Condition) × IsBroken gate (standing_of change current set) condition

-- every vote that the pattern takes is taken by one that is rejected
abbrev pub IsRejectedPattern : List PatternRule → PatternRule → Type 0
IsRejectedPattern rejected pattern =
    (vote : GivenApproval) → is_no_vote vote.value ≡ false → matches pattern vote ≡ true
    → some (λ other. matches other vote) rejected ≡ true

-- no item of any change breaks the condition
abbrev pub IsNeverBroken : GateRules → Condition → Type 0
IsNeverBroken gate condition = (change : Change) (current set : ℕ)
    → ¬ IsBroken gate (standing_of change current set) condition

-- a label as a record keeps it, and values that votes may have, as a gate file has them
pub record IsWritable (rule : LabelRule) : Type 0 where
  pub label : IsKeptLabel rule.label
  pub values : All (FitsSigned w8) rule.values

-- a record may hold a vote of the voter, which is not 0 and which the pattern takes
pub record TakesVoteOf (pattern : PatternRule) (voter : List ℕ) : Type 0 where
  pub label : List ℕ
  pub value : ℤ
  pub held : IsGood (vote 1 1 label voter value)
  pub real : is_no_vote value ≡ false
  pub taken : matches pattern (record { label = label; voter = voter; value = value }) ≡ true
