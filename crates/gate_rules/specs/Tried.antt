-- Each condition of a gate with whether an item breaks it, as Gerrit shows all submit requirements of a change with
-- whether each is satisfied (gerrit-review.googlesource.com/Documentation, "Submit Requirements"). The order is that in
-- which an item is judged.
use Rattle.std.specs.Prelude.{◌≡◌, ◌↔◌, ℕ, suc, List, [], ◌∷◌, ◌++◌, Bool, true, false, not, Option, None, Some, Contains}
use Rattle.std.specs.Prelude.{flat_map}
use Rattle.std.specs.FinMap as finite
use Rattle.change_core.specs.Change.{Change}
use Rattle.change_core.specs.Views.{IsGreatestKnown}
use Rattle.state_core.specs.State.{State}
use Rattle.state_core.specs.declared.item.Item.{Item}
use Rattle.gate_rules.specs.declared.condition.Side.{Side}
use Rattle.gate_rules.specs.declared.condition.Side.TheVariants.{Require, Reject}
use Rattle.gate_rules.specs.declared.condition.Clause.{Clause}
use Rattle.gate_rules.specs.declared.condition.Clause.TheVariants.{OpenState, CurrentSet, StatusIn, Approval}
use Rattle.gate_rules.specs.declared.tried.Tried.{Tried}
use Rattle.gate_rules.specs.Own.{ItemStanding, compared, side_rules, standing_of}
use Rattle.gate_rules.specs.Rules.{GateRules, PatternRule, SideRules}

-- what is required is broken where it doesn't hold, and what is rejected where it does
abbrev pub is_broken_by : Side → Bool → Bool
is_broken_by Require held = not held
is_broken_by Reject held = held

-- the approvals of a side by their places, from one after these
abbrev pub approvals_from : ℕ → List PatternRule → List Clause
approvals_from places [] = []
approvals_from places (pattern ∷ patterns) = Approval (suc places) ∷ approvals_from (suc places) patterns

-- the clauses that a side may have, in their order
abbrev pub clauses_of : SideRules → List Clause
clauses_of rules = OpenState ∷ CurrentSet ∷ StatusIn ∷ approvals_from 0 rules.approvals

-- a clause of a side, by whether it holds, where the side has it
abbrev pub tried_clause : Side → Clause → Option Bool → List Tried
tried_clause side clause None = []
tried_clause side clause (Some held) =
    record { condition = record { side = side; clause = clause }; is_broken = is_broken_by side held } ∷ []

abbrev pub tried_by : GateRules → ItemStanding → Side → Clause → List Tried
tried_by gate standing side clause = tried_clause side clause (compared (side_rules gate side) standing clause)

abbrev pub tried_side : GateRules → ItemStanding → Side → List Tried
tried_side gate standing side = flat_map (tried_by gate standing side) (clauses_of (side_rules gate side))

-- what is required, then what is rejected
abbrev pub tried_of : GateRules → ItemStanding → List Tried
tried_of gate standing = tried_side gate standing Require ++ tried_side gate standing Reject

-- each condition of the gate with whether an item breaks it, over the state of its change
abbrev pub AreTried : GateRules → State → Item → List Tried → Type 0
AreTried gate state item tried =
    (change : Change) (current : ℕ) → finite.get state item.change ≡ Some change → IsGreatestKnown change current
    → tried ≡ tried_of gate (standing_of change current item.set)

-- a condition that the gate has, and whether it is broken
pub record IsTried (gate : GateRules) (standing : ItemStanding) (tried : Tried) : Type 0 where
  pub held : Bool
  pub has : compared (side_rules gate tried.condition.side) standing tried.condition.clause ≡ Some held
  pub broken : tried.is_broken ≡ is_broken_by tried.condition.side held

-- just the conditions that the gate has are tried
abbrev pub TriesEach : Type 0
TriesEach = (gate : GateRules) (standing : ItemStanding) (tried : Tried)
    → Contains (tried_of gate standing) tried ↔ IsTried gate standing tried
