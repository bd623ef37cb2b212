-- Which items of a state are drawn under a gate, and what is drawn of each.
use Rattle.std.specs.Prelude.{◌≡◌, ◌↔◌, ◌⊎◌, ℕ, List, Option, None, Some, Contains, flat_map, map}
use Rattle.std.specs.List.Sorted.{IsStrictlyIncreasing, IsStrictlySortedBy}
use Rattle.walk_core.specs.Walks.{IsOnCycle, Leads}
use Rattle.walk_core.specs.Ranks.{AreTogether, IsLeast, LeadsTo}
use Rattle.gate_rules.specs.Rules.{GateRules}
use Rattle.state_core.specs.State.{State}
use Rattle.state_core.specs.Items.{IsItem, item_cmp}
use Rattle.state_core.specs.Known.{IsMerged}
use Rattle.state_core.specs.declared.item.Item.{Item}
use Rattle.graph_core.specs.Dependencies.{IsDependency}
use Rattle.ready_core.specs.Refusals.{IsUnknownTarget}
use Rattle.ready_core.specs.Verdicts.{AreVerdicts, Judged}
use Rattle.ready_core.specs.declared.verdicts.Left.{Left}
use Rattle.ready_core.specs.declared.verdicts.Refusal.{Refusal}
use Rattle.graph_text.specs.Lines.{graph_lines}
use Rattle.graph_text.specs.declared.node.Node.{Node}

-- ---- which items are drawn

-- an item of the change leads to the item, over some edges or none; around no change all items are so
abbrev pub IsAhead : GateRules → State → Option ℕ → Item → Type 0
IsAhead gate state None item = Unit {0}
IsAhead gate state (Some number) item =
    (from : Item) × IsItem state from × (from.change ≡ number) × LeadsTo (IsDependency gate state) from item

-- the item leads to one of the change, over some edges or none; around no change all items are so
abbrev pub IsDrawnBehind : GateRules → State → Option ℕ → Item → Type 0
IsDrawnBehind gate state None item = Unit {0}
IsDrawnBehind gate state (Some number) item =
    (n : ℕ) × Leads (IsDependency gate state) (λ other. other.change ≡ number) n item

-- an item of the state is drawn where its change isn't merged, and it is ahead of the change or behind it
pub record IsDrawn (gate : GateRules) (state : State) (around : Option ℕ) (item : Item) : Type 0 where
  pub there : IsItem state item
  pub open_still : ¬ IsMerged state item.change
  pub near : IsAhead gate state around item ⊎ IsDrawnBehind gate state around item

-- ---- what is drawn of an item

-- it is ready; or it is left out for the refusal
abbrev pub IsVerdictOn : Judged → Item → Option Refusal → Type 0
IsVerdictOn verdicts item None = Contains verdicts.ready item
IsVerdictOn verdicts item (Some refusal) =
    (left : Left) × Contains verdicts.out left × (left.item ≡ item) × (left.refusal ≡ refusal)

-- it is on no cycle; or on one whose first item is this one
abbrev pub IsCycleOf : GateRules → State → Item → Option Item → Type 0
IsCycleOf gate state item None = ¬ IsOnCycle (IsDependency gate state) item
IsCycleOf gate state item (Some first) =
    IsOnCycle (IsDependency gate state) item × IsLeast item_cmp (AreTogether (IsDependency gate state) item) first

-- just the items that it waits for and that are drawn, in order
pub record AreNeeds (gate : GateRules) (state : State) (around : Option ℕ) (item : Item) (needs : List Item)
    : Type 0 where
  pub in_order : IsStrictlySortedBy item_cmp needs
  pub each : (other : Item)
      → Contains needs other ↔ (IsDependency gate state item other × IsDrawn gate state around other)

-- just the changes that it waits for and of which no patch set is known, in order; of an item that isn't ahead none
pub record AreUnknown (gate : GateRules) (state : State) (around : Option ℕ) (item : Item) (unknown : List ℕ)
    : Type 0 where
  pub increasing : IsStrictlyIncreasing unknown
  pub each : (number : ℕ)
      → Contains unknown number ↔ (IsAhead gate state around item × IsUnknownTarget gate state item number)

-- what is drawn of an item: the verdict on it, its cycle, what it waits for, and which unknown changes it names
pub record IsNode (gate : GateRules) (state : State) (verdicts : Judged) (around : Option ℕ) (node : Node)
    : Type 0 where
  pub verdict : IsVerdictOn verdicts node.item node.refusal
  pub cycle : IsCycleOf gate state node.item node.cycle
  pub needs : AreNeeds gate state around node.item node.needs.items
  pub unknown : AreUnknown gate state around node.item node.unknown.items

-- ---- the whole picture

abbrev pub items_of : List Node → List Item
items_of nodes = map (λ node. node.item) nodes

-- just the items that are drawn, in order, with what is drawn of each
pub record AreNodes (gate : GateRules) (state : State) (verdicts : Judged) (around : Option ℕ) (nodes : List Node)
    : Type 0 where
  pub in_order : IsStrictlySortedBy item_cmp (items_of nodes)
  pub each : (item : Item) → Contains (items_of nodes) item ↔ IsDrawn gate state around item
  pub drawn : (node : Node) → Contains nodes node → IsNode gate state verdicts around node

-- just the unknown changes that some of the nodes wait for, in order
pub record AreAllUnknown (nodes : List Node) (unknown : List ℕ) : Type 0 where
  pub increasing : IsStrictlyIncreasing unknown
  pub each : (number : ℕ)
      → Contains unknown number ↔ Contains (flat_map (λ node. node.unknown.items) nodes) number

-- the text is the graph of the items and of what they wait for, with the verdicts on the state
pub record IsGraphText (gate : GateRules) (state : State) (around : Option ℕ) (text : List ℕ) : Type 0 where
  pub verdicts : Judged
  pub judged : AreVerdicts gate state verdicts
  pub nodes : List Node
  pub drawn : AreNodes gate state verdicts around nodes
  pub unknown : List ℕ
  pub all_unknown : AreAllUnknown nodes unknown
  pub lines : text ≡ graph_lines nodes unknown
