-- Directed graphs over the numbers of their nodes: the list of each node's row, which is the list of the ends of its
-- edges.
use Rattle.std.specs.Prelude.{◌≡◌, ◌↔◌, ◌⊎◌, ◌<◌, ℕ, Bool, true, List, [], Option, None, Some, length, slice_get}
use Rattle.walk_core.specs.Walks.{Leads, IsDistance, IsOnCycle, IsEdge}

abbrev pub row : Option (List ℕ) → List ℕ
row None = []
row (Some ends) = ends

-- the ends of a node's edges; a number that is no node has none
abbrev pub ends_of : List (List ℕ) → ℕ → List ℕ
ends_of graph x = row (slice_get graph x)

-- an edge leads from one node to the other
abbrev pub HasEdge : List (List ℕ) → ℕ → ℕ → Type 0
HasEdge graph = IsEdge (ends_of graph)

-- each edge ends at a node
abbrev pub IsWithin : List (List ℕ) → Type 0
IsWithin graph = (x y : ℕ) → HasEdge graph x y → y < length graph

-- the graph with each edge turned round
pub record IsReversed (graph reversed : List (List ℕ)) : Type 0 where
  pub nodes : length reversed ≡ length graph
  pub edges : (x y : ℕ) → HasEdge graph x y ↔ HasEdge reversed y x

-- the graph with further edges
pub record AddsEdges (graph : List (List ℕ)) (E : ℕ → ℕ → Type 0) (after : List (List ℕ)) : Type 0 where
  pub nodes : length after ≡ length graph
  pub edges : (x y : ℕ) → HasEdge after x y ↔ (HasEdge graph x y ⊎ E x y)

-- the node is marked
abbrev pub IsMarked : List Bool → ℕ → Type 0
IsMarked marked x = slice_get marked x ≡ Some true

-- how many edges the shortest walk from a node to a marked one has; none where no walk leads to one
abbrev pub IsDistanceTo : List (List ℕ) → List Bool → ℕ → Option ℕ → Type 0
IsDistanceTo graph marked x None = (n : ℕ) → ¬ Leads (HasEdge graph) (IsMarked marked) n x
IsDistanceTo graph marked x (Some n) = IsDistance (HasEdge graph) (IsMarked marked) n x

-- the distance of each node to the marked ones
pub record AreDistances (graph : List (List ℕ)) (marked : List Bool) (distances : List (Option ℕ)) : Type 0 where
  pub nodes : length distances ≡ length graph
  pub each : (x : ℕ) (distance : Option ℕ) → slice_get distances x ≡ Some distance
      → IsDistanceTo graph marked x distance

-- just the nodes that are on a cycle are marked
pub record AreOnCycles (graph : List (List ℕ)) (marked : List Bool) : Type 0 where
  pub nodes : length marked ≡ length graph
  pub each : (x : ℕ) → IsMarked marked x ↔ IsOnCycle (HasEdge graph) x
