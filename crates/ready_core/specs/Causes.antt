-- What the search for verdicts has computed of the items, step by step.
use Rattle.std.specs.Prelude.{◌≡◌, ◌<◌, ◌≤◌, ◌↔◌, ℕ, Bool, List, Option, None, Some, map, is_none, is_some, length}
use Rattle.std.specs.Prelude.{slice_get, slice_index_or, Contains}
use Rattle.std.specs.List.{AllZip}
use Rattle.std.specs.List.Sorted.{IsStrictlySortedBy}
use Rattle.std.specs.Ordering.{nat_cmp}
use Rattle.walk_core.specs.Digraphs.{AreDistances, HasEdge, IsMarked, IsWithin}
use Rattle.walk_core.specs.Levels.{HasDistance}
use Rattle.walk_core.specs.declared.ranks.NodeRank.{NodeRank}
use Rattle.walk_core.specs.Ranks.{AreRanksInOrder, Rank}
use Rattle.std.proofs.Common.{suc}
use Rattle.gate_rules.specs.Rules.{GateRules}
use Rattle.gate_rules.specs.Own.{IsOwn}
use Rattle.gate_rules.specs.declared.condition.Condition.{Condition}
use Rattle.state_core.specs.declared.item.Item.{Item}
use Rattle.state_core.specs.State.{State}
use Rattle.state_core.specs.Items.{item_cmp}
use Rattle.state_core.specs.Known.{IsKnown}
use Rattle.graph_core.specs.Dependencies.{IsDependency}
use Rattle.graph_core.specs.ItemGraph.{ItemGraph, IsAt, IsGraphOf}
use Rattle.ready_core.specs.declared.verdicts.Refusal.{Refusal}
use Rattle.ready_core.specs.declared.verdicts.Left.{Left}
use Rattle.ready_core.specs.Closed.{IsSafe}
use Rattle.ready_core.specs.Refusals.{IsEligible, IsRefused}
use Rattle.ready_core.specs.Verdicts.{items_out}

-- the least of the changes of which no patch set is known
pub record IsFirstUnknown (state : State) (numbers : List ℕ) (number : ℕ) : Type 0 where
  pub has : Contains numbers number
  pub unknown : ¬ IsKnown state number
  pub least : (other : ℕ) → Contains numbers other → ¬ IsKnown state other → number ≤ other

-- why the item isn't eligible, or none where it is
abbrev pub IsCauseOf : GateRules → State → Item → Option Refusal → Type 0
IsCauseOf gate state item None = IsEligible gate state item
IsCauseOf gate state item (Some refusal) = IsRefused gate state item refusal 0

abbrev pub AreCauses : GateRules → State → List Item → List (Option Refusal) → Type 0
AreCauses gate state items causes = AllZip (IsCauseOf gate state) items causes

-- the own conditions of the items
abbrev pub AreOwns : GateRules → State → List Item → List (Option Condition) → Type 0
AreOwns gate state items owns = AllZip (IsOwn gate state) items owns

abbrev pub flags_of : List (Option Refusal) → List Bool
flags_of causes = map is_some causes

-- ---- own conditions, item by item

-- the own condition of the item before the place, where there is one
abbrev pub IsOwnBefore : GateRules → State → List Item → ℕ → Option Condition → Type 0
IsOwnBefore gate state items place own =
    (earlier : ℕ) (item : Item) → place ≡ suc earlier → IsAt items earlier item → IsOwn gate state item own

-- the items before and after the one at the place are of its change
pub record IsAmongItsOwn (items : List Item) (place : ℕ) : Type 0 where
  pub earlier : ℕ
  pub follows : place ≡ suc earlier
  pub before : Item
  pub here : Item
  pub after : Item
  pub before_at : IsAt items earlier before
  pub here_at : IsAt items place here
  pub after_at : IsAt items (suc place) after
  pub of_before : before.change ≡ here.change
  pub of_after : after.change ≡ here.change

-- how far each place is from one with a cause
abbrev pub AreRanks : List (List ℕ) → List (Option Refusal) → List (Option ℕ) → Type 0
AreRanks ends causes ranks = AreDistances ends (flags_of causes) ranks

-- what was searched of a graph: why each of its items isn't eligible, and how far each is from one that isn't
pub record AreSearched (graph : ItemGraph) (causes : List (Option Refusal)) (ranks : List (Option ℕ)) : Type 0 where
  pub causes_of_all : length causes ≡ length graph.items
  pub nodes : length graph.ends ≡ length graph.items
  pub within : IsWithin graph.ends
  pub distances : AreRanks graph.ends causes ranks

-- the first of the places with a rank
pub record IsNearest (ranks : List (Option ℕ)) (places : List ℕ) (wanted place : ℕ) : Type 0 where
  pub index : ℕ
  pub here : slice_get places index ≡ Some place
  pub rank : HasDistance ranks place wanted
  pub first : (earlier other : ℕ) → earlier < index → slice_get places earlier ≡ Some other
      → ¬ HasDistance ranks other wanted

-- the item is at one of the first places
pub record StandsAmongFirst (items : List Item) (count : ℕ) (item : Item) : Type 0 where
  pub place : ℕ
  pub before : place < count
  pub here : IsAt items place item

abbrev pub IsSafeItem : GateRules → State → Item → Type 0
IsSafeItem gate state = IsSafe (IsDependency gate state) (IsEligible gate state)

-- the verdicts on the items at the first places
pub record AreJudged (gate : GateRules) (state : State) (items : List Item) (count : ℕ) (safe : List Item) (left_out : List Left) : Type 0 where
  pub ready : (item : Item) → Contains safe item ↔ (StandsAmongFirst items count item × IsSafeItem gate state item)
  pub out : (item : Item)
      → Contains (items_out left_out) item ↔ (StandsAmongFirst items count item × ¬ IsSafeItem gate state item)
  pub refused : (left : Left) → Contains left_out left → IsRefused gate state left.item left.refusal left.rank
  pub ready_in_order : IsStrictlySortedBy item_cmp safe
  pub out_in_order : IsStrictlySortedBy item_cmp (items_out left_out)

-- the verdicts on the items at the first places, for every gate and state of which the graph and the causes are
abbrev pub AreJudgedBy : ItemGraph → List (Option Refusal) → ℕ → List Item → List Left → Type 0
AreJudgedBy graph causes count ready out =
    (gate : GateRules) (state : State) → IsGraphOf gate state graph → AreCauses gate state graph.items causes
    → AreJudged gate state graph.items count ready out

-- ---- the order of the ready items

-- the item at a place; a number that is no place has none
abbrev pub item_at : List Item → ℕ → Item
item_at items place = slice_index_or items place (record { change = 0; set = 0 })

-- the rank of an item, by that of its place
abbrev pub rank_at : List Item → Rank ℕ → Rank Item
rank_at items rank = record { count = rank.count; first = item_at items rank.first; node = item_at items rank.node }

-- the rank is of so many places
pub record IsRankWithin (count : ℕ) (rank : NodeRank) : Type 0 where
  pub first : rank.first < count
  pub node : rank.node < count

-- the places without a rank
abbrev pub safe_flags : List (Option ℕ) → List Bool
safe_flags ranks = map is_none ranks

-- the items were judged place by place, and the ranks of those that are ready are in order
pub record IsJudgement (graph : ItemGraph) (causes : List (Option Refusal)) (distances : List (Option ℕ)) (ranks : List (Rank Item)) (out : List Left) : Type 0 where
  pub searched : AreSearched graph causes distances
  pub safe : List Item
  pub judged : AreJudgedBy graph causes (length graph.items) safe out
  pub places : List (Rank ℕ)
  pub in_order : AreRanksInOrder nat_cmp (HasEdge graph.ends) (IsMarked (safe_flags distances)) places
  pub ranks_at : ranks ≡ map (rank_at graph.items) places
