-- What is drawn of a graph, place by place.
use Rattle.std.specs.Prelude.{◌≡◌, ◌↔◌, ◌⊎◌, ◌<◌, ℕ, Bool, false, List, [], Option, None, Some, Contains, cond, length}
use Rattle.std.specs.Prelude.{map, slice_index, slice_index_or}
use Rattle.std.specs.List.{AllZip}
use Rattle.std.specs.List.Sorted.{IsStrictlyIncreasing, IsStrictlySortedBy}
use Rattle.walk_core.specs.Components.{AreFirsts}
use Rattle.walk_core.specs.Digraphs.{IsMarked, IsWithin, ends_of}
use Rattle.state_core.specs.State.{State}
use Rattle.state_core.specs.Items.{item_cmp}
use Rattle.state_core.specs.Known.{IsKnown, IsMerged}
use Rattle.state_core.specs.declared.item.Item.{Item}
use Rattle.graph_core.specs.ItemGraph.{ItemGraph, IsAt}
use Rattle.ready_core.specs.Causes.{item_at}
use Rattle.ready_core.specs.Verdicts.{items_out}
use Rattle.ready_core.specs.declared.verdicts.Left.{Left}
use Rattle.ready_core.specs.declared.verdicts.Refusal.{Refusal}
use Rattle.graph_text.specs.declared.node.Node.{Node}

-- what a graph and its flags have to be: the items in order, beside each its rows and flags, and each row rising
pub record AreSides (graph : ItemGraph) (ahead behind : List Bool) : Type 0 where
  pub in_order : IsStrictlySortedBy item_cmp graph.items
  pub ahead_all : length ahead ≡ length graph.items
  pub behind_all : length behind ≡ length graph.items
  pub nodes : length graph.ends ≡ length graph.items
  pub cycles : length graph.on_cycle ≡ length graph.items
  pub within : IsWithin graph.ends
  pub ends_rise : (place : ℕ) → IsStrictlyIncreasing (ends_of graph.ends place)
  pub targets_rise : (place : ℕ) → IsStrictlyIncreasing (ends_of graph.targets place)

-- the item at the place is drawn
pub record IsShown (state : State) (items : List Item) (ahead behind : List Bool) (place : ℕ) : Type 0 where
  pub item : Item
  pub here : IsAt items place item
  pub open_still : ¬ IsMerged state item.change
  pub near : IsMarked ahead place ⊎ IsMarked behind place

-- just those numbers with Q that have P, in order
pub record AreKept (Q P : ℕ → Type 0) (kept : List ℕ) : Type 0 where
  pub increasing : IsStrictlyIncreasing kept
  pub each : (number : ℕ) → Contains kept number ↔ (Q number × P number)

abbrev pub flag_at : List Bool → ℕ → Bool
flag_at flags place = slice_index_or flags place false

-- the first item of the cycle of the item at the place
abbrev pub first_at : ItemGraph → List ℕ → ℕ → Option Item
first_at graph firsts place =
    cond (flag_at graph.on_cycle place) (Some (item_at graph.items (slice_index firsts place))) None

-- the item is left out for the refusal, or it isn't left out
abbrev pub IsOutFor : List Left → Item → Option Refusal → Type 0
IsOutFor out item None = ¬ Contains (items_out out) item
IsOutFor out item (Some refusal) = (left : Left) × Contains out left × (left.item ≡ item) × (left.refusal ≡ refusal)

-- the items of those of the places that are drawn
pub record AreNeedsAt
    (state : State) (items : List Item) (ahead behind : List Bool) (ends : List ℕ) (needs : List Item) : Type 0 where
  pub places : List ℕ
  pub kept : AreKept (Contains ends) (IsShown state items ahead behind) places
  pub needs_are : needs ≡ map (item_at items) places

-- of an item that is ahead just the targets that aren't known
abbrev pub AreUnknownAt : State → ItemGraph → List Bool → ℕ → List ℕ → Type 0
AreUnknownAt state graph ahead place unknown =
    AreKept (Contains (cond (flag_at ahead place) (ends_of graph.targets place) [])) (λ number. ¬ IsKnown state number)
    unknown

pub record IsNodeAt
    (state : State) (graph : ItemGraph) (out : List Left) (ahead behind : List Bool) (firsts : List ℕ) (place : ℕ)
    (node : Node) : Type 0 where
  pub item : IsAt graph.items place node.item
  pub refusal : IsOutFor out node.item node.refusal
  pub cycle : node.cycle ≡ first_at graph firsts place
  pub needs : AreNeedsAt state graph.items ahead behind (ends_of graph.ends place) node.needs.items
  pub unknown : AreUnknownAt state graph ahead place node.unknown.items

-- of the first places just those that are drawn, each with its node
pub record AreNodesTo
    (state : State) (graph : ItemGraph) (out : List Left) (ahead behind : List Bool) (firsts : List ℕ) (count : ℕ)
    (nodes : List Node) : Type 0 where
  pub places : List ℕ
  pub kept : AreKept (λ place. place < count) (IsShown state graph.items ahead behind) places
  pub nodes_at : AllZip (IsNodeAt state graph out ahead behind firsts) places nodes

-- of all places
pub record AreNodesAt
    (state : State) (graph : ItemGraph) (out : List Left) (ahead behind : List Bool) (nodes : List Node) : Type 0 where
  pub firsts : List ℕ
  pub are_firsts : AreFirsts graph.ends firsts
  pub all : AreNodesTo state graph out ahead behind firsts (length graph.items) nodes
