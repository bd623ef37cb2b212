-- The nodes of a graph by what is known of them while its strongly connected components are found, one after another: a
-- node's component is what a search back from it finds and a search forth finds again (Fleischer, Hendrickson and Pinar
-- 2000). In the order of a search in depth the search back alone finds it (Sharir 1981).
use Rattle.std.specs.Prelude.{◌≡◌, ◌≢◌, ◌↔◌, ◌⊎◌, ◌<◌, ◌≤◌, ℕ, Bool, true, false, List, Contains, length, slice_index}
use Rattle.std.specs.Prelude.{slice_index_or}
use Rattle.std.specs.Ordering.{nat_cmp}
use Rattle.walk_core.specs.Walks.{IsReachedOver, IsOnCycle}
use Rattle.walk_core.specs.Ranks.{AreTogether, IsLeast}
use Rattle.walk_core.specs.Digraphs.{HasEdge}
use Rattle.walk_core.specs.declared.component.Place.{Place}
use Rattle.walk_core.specs.declared.component.Place.TheVariants.{Waiting, Behind, OnCycle, OffCycle}
use Rattle.walk_core.specs.declared.component.Way.{Way}
use Rattle.walk_core.specs.declared.component.Way.TheVariants.{Back, Forth}
use Rattle.walk_core.specs.declared.cycles.Components.{Components}

-- a number that is no node is on no cycle
abbrev pub place_of : List Place → ℕ → Place
place_of places x = slice_index_or places x OffCycle

abbrev pub is_on_cycle : Place → Bool
is_on_cycle OnCycle = true
is_on_cycle _ = false

-- each of two nodes leads to the other
pub record AreConnected (graph : List (List ℕ)) (x y : ℕ) : Type 0 where
  pub forth : IsReachedOver (HasEdge graph) x y
  pub back : IsReachedOver (HasEdge graph) y x

-- ---- a search

-- the place of the nodes that a search goes to
abbrev pub sought_place : Way → Place
sought_place Back = Waiting
sought_place Forth = Behind

-- the place that it leaves them
abbrev pub found_place : Way → Place
found_place Back = Behind
found_place Forth = OnCycle

-- the search goes from one node to the other
abbrev pub IsStep : List (List ℕ) → Way → ℕ → ℕ → Type 0
IsStep graph Back = λ x y. HasEdge graph y x
IsStep graph Forth = λ x y. HasEdge graph x y

-- a sought node was reached, and its place changed
pub record IsFound (E : ℕ → ℕ → Type 0) (sought found : Place) (start : ℕ) (before after : List Place) (x : ℕ) : Type 0 where
  pub reached : IsReachedOver E start x
  pub was : place_of before x ≡ sought
  pub is : place_of after x ≡ found

-- a search from a node found these, nothing else changed, and no step from there leads to a node that is sought still
pub record HasSpread (E : ℕ → ℕ → Type 0) (sought found : Place) (start : ℕ) (before after : List Place) (nodes : List ℕ) : Type 0 where
  pub size : length after ≡ length before
  pub each : (x : ℕ) → (place_of after x ≡ place_of before x) ⊎ Contains nodes x
  pub moved : (x : ℕ) → Contains nodes x → IsFound E sought found start before after x
  pub closed : (x y : ℕ) → ((x ≡ start) ⊎ Contains nodes x) → E x y → place_of after y ≢ sought

-- a node of these that was behind waits again
pub record IsReleased (nodes : List ℕ) (before after : List Place) (x : ℕ) : Type 0 where
  pub listed : Contains nodes x
  pub was : place_of before x ≡ Behind
  pub is : place_of after x ≡ Waiting

-- of these nodes all that were behind wait again, and nothing else changed
pub record AreReleased (nodes : List ℕ) (before after : List Place) : Type 0 where
  pub size : length after ≡ length before
  pub each : (x : ℕ) → (place_of after x ≡ place_of before x) ⊎ IsReleased nodes before after x
  pub all : (x : ℕ) → Contains nodes x → place_of after x ≢ Behind

-- ---- a component

-- a node waited, is connected with the node that was asked for, and is known to be on a cycle
pub record IsMember (graph : List (List ℕ)) (node : ℕ) (before after : List Place) (x : ℕ) : Type 0 where
  pub connected : AreConnected graph node x
  pub was : place_of before x ≡ Waiting
  pub is : place_of after x ≡ OnCycle

-- all nodes that are connected with the node are known to be on a cycle, and nothing else changed
pub record HasComponent (graph : List (List ℕ)) (node : ℕ) (before after : List Place) : Type 0 where
  pub size : length after ≡ length before
  pub each : (x : ℕ) → (place_of after x ≡ place_of before x) ⊎ IsMember graph node before after x
  pub all : (x : ℕ) → AreConnected graph node x → place_of after x ≡ OnCycle

-- what is known of nodes is right, and known of whole components
pub record AreSettled (graph : List (List ℕ)) (places : List Place) : Type 0 where
  pub size : length places ≡ length graph
  pub sure : (x : ℕ) → place_of places x ≢ Behind
  pub on : (x : ℕ) → place_of places x ≡ OnCycle → IsOnCycle (HasEdge graph) x
  pub off : (x : ℕ) → place_of places x ≡ OffCycle → ¬ IsOnCycle (HasEdge graph) x
  pub whole : (x y : ℕ) → place_of places x ≡ OnCycle → AreConnected graph x y → place_of places y ≡ OnCycle

-- the node waits no longer, and no other begins to
abbrev pub WaitsNoLonger : ℕ → List Place → List Place → Type 0
WaitsNoLonger node before after = (x : ℕ) → place_of after x ≡ Waiting → (place_of before x ≡ Waiting) × (x ≢ node)

-- ---- the first nodes of components

-- it is the least node that the node is together with
abbrev pub IsFirst : List (List ℕ) → ℕ → ℕ → Type 0
IsFirst graph x first = IsLeast nat_cmp (AreTogether (HasEdge graph) x) first

-- each node has the first that it is together with
pub record AreFirsts (graph : List (List ℕ)) (firsts : List ℕ) : Type 0 where
  pub size : length firsts ≡ length graph
  pub each : (x : ℕ) → x < length graph → IsFirst graph x (slice_index firsts x)

-- of some nodes each has this first now, and each other node has what it had
pub record AreLabelled (nodes : List ℕ) (first : ℕ) (before after : List ℕ) : Type 0 where
  pub size : length after ≡ length before
  pub each : (x : ℕ) → (Contains nodes x × (slice_index after x ≡ first))
      ⊎ ((¬ Contains nodes x) × (slice_index after x ≡ slice_index before x))

-- it is the least of a node and some others
pub record IsLeastOf (others : List ℕ) (node first : ℕ) : Type 0 where
  pub here : (first ≡ node) ⊎ Contains others first
  pub own : first ≤ node
  pub least : (x : ℕ) → Contains others x → first ≤ x

-- what was found of components: of a node that is known to be on a cycle its first node, and each node that waits no
-- longer; other nodes have themselves as first node
pub record AreFound (graph : List (List ℕ)) (places : List Place) (firsts nodes : List ℕ) : Type 0 where
  pub settled : AreSettled graph places
  pub size : length firsts ≡ length graph
  pub on : (x : ℕ) → place_of places x ≡ OnCycle → IsFirst graph x (slice_index firsts x)
  pub other : (x : ℕ) → x < length graph → place_of places x ≢ OnCycle → slice_index firsts x ≡ x
  pub listed : (x : ℕ) → x < length graph → Contains nodes x ⊎ (place_of places x ≡ Waiting)
  pub within : (x : ℕ) → Contains nodes x → x < length graph

abbrev pub HasFound : {A : Type 0} → List (List ℕ) → Components A → Type 0
HasFound graph components = AreFound graph components.places.items components.firsts.items components.nodes.items

-- all components were found
pub record HasFoundAll {A : Type 0} (graph : List (List ℕ)) (components : Components A) : Type 0 where
  pub settled : AreSettled graph components.places.items
  pub none : (x : ℕ) → place_of components.places.items x ≢ Waiting
  pub firsts : AreFirsts graph components.firsts.items
  pub nodes : (x : ℕ) → Contains components.nodes.items x ↔ x < length graph
