-- What operations that come to a journal touch, and what waits for that.
use Rattle.std.specs.Prelude.{◌≡◌, ◌==◌, ℕ, Bool, List, Contains}
use Rattle.std.specs.List.{list_any}
use Rattle.review_ops.specs.Deed.{change_of}
use Rattle.review_ops.specs.Operation.{Operation}
use Rattle.walk_core.specs.Walks.{IsOfKind}
use Rattle.gate_rules.specs.Rules.{GateRules}
use Rattle.state_core.specs.declared.item.Item.{Item}
use Rattle.state_core.specs.State.{state_of}
use Rattle.graph_core.specs.Dependencies.{IsDependency, IsTarget}

-- one of the operations is on the change
pub record IsTouched (later : List Operation) (number : ℕ) : Type 0 where
  pub op : Operation
  pub there : Contains later op
  pub on : change_of op.deed ≡ number

-- the same, as a test
abbrev pub touches : List Operation → ℕ → Bool
touches later number = list_any (λ op. change_of op.deed == number) later

-- the items hold those of the touched changes, those that waited for a touched change, known or not, before the
-- operations came, and those that waited for one of the items
pub record HoldsWhatWaits (gate : GateRules) (journal later : List Operation) (reached : Item → Bool) : Type 0 where
  pub touched : (item : Item) → IsTouched later item.change → IsOfKind reached item
  pub waiting : (item : Item) (number : ℕ) → IsTarget gate (state_of journal) item number → IsTouched later number
      → IsOfKind reached item
  pub leading : (item other : Item) → IsDependency gate (state_of journal) item other → IsOfKind reached other
      → IsOfKind reached item
