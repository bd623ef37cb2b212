-- What an item waits for. Footers `Depends-On:` and that a dependency has to be merged, or to go in together with what
-- needs it, are those of Zuul (zuul-ci.org/docs, "Cross-Project Dependencies"), and that items on a cycle of
-- dependencies may go in together where a queue has `allow-circular-dependencies` is that of Zuul's queues ("Queue").
-- That a Git parent counts like a footer, that a change doesn't wait for itself, and that a dependency which isn't
-- merged stands for its current patch set, are this project's own rules.
use Rattle.std.specs.Prelude.{◌≡◌, ◌≢◌, ℕ, ◌⊎◌, List, Some}
use Rattle.std.specs.FinMap as finite
use Rattle.change_core.specs.Change.{Change}
use Rattle.change_core.specs.Views.{message_of, parent_of}
use Rattle.footer_text.specs.Footers.{MessageNeeds}
use Rattle.gate_rules.specs.Rules.{GateRules}
use Rattle.state_core.specs.declared.item.Item.{Item}
use Rattle.state_core.specs.State.{State}
use Rattle.state_core.specs.Items.{IsCurrentItem}
use Rattle.state_core.specs.Known.{IsMerged}

-- a footer of the patch set's message names the change, which isn't the item's own
pub record IsNeeded (gate : GateRules) (state : State) (item : Item) (number : ℕ) : Type 0 where
  pub change : Change
  pub stands : finite.get state item.change ≡ Some change
  pub message : List ℕ
  pub said : message_of change item.set ≡ Some message
  pub needs : MessageNeeds gate.bases item.change message number

-- the patch set's Git parent belongs to the change, which isn't the item's own
pub record IsParent (state : State) (item : Item) (number : ℕ) : Type 0 where
  pub change : Change
  pub stands : finite.get state item.change ≡ Some change
  pub parent : parent_of change item.set ≡ Some number
  pub other : number ≢ item.change

-- the item names the change, by a footer or as its parent
abbrev pub Names : GateRules → State → Item → ℕ → Type 0
Names gate state item number = IsNeeded gate state item number ⊎ IsParent state item number

-- the item waits for the change: it names it, and it isn't merged
abbrev pub IsTarget : GateRules → State → Item → ℕ → Type 0
IsTarget gate state item number = Names gate state item number × ¬ IsMerged state number

-- an edge: the item waits for a change, of which the other is the current item
abbrev pub IsDependency : GateRules → State → Item → Item → Type 0
IsDependency gate state item other = IsTarget gate state item other.change × IsCurrentItem state other
