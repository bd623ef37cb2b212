-- What leads to the marked nodes of a graph, and what is reached from them, over walks of any length (`Walks`).
use Rattle.std.specs.Prelude.{◌≡◌, ◌↔◌, ℕ, Bool, List, length}
use Rattle.walk_core.specs.Walks.{Leads, Walk}
use Rattle.walk_core.specs.Digraphs.{HasEdge, IsMarked}

-- some walk leads from the node to a marked one
abbrev pub IsLeading : List (List ℕ) → List Bool → ℕ → Type 0
IsLeading graph marked x = (n : ℕ) × Leads (HasEdge graph) (IsMarked marked) n x

-- some walk leads from a marked node to the node
abbrev pub IsReached : List (List ℕ) → List Bool → ℕ → Type 0
IsReached graph marked x = (from : ℕ) × IsMarked marked from × ((n : ℕ) × Walk (HasEdge graph) n from x)

-- just the nodes that lead to a marked one have a mark
pub record AreLeading (graph : List (List ℕ)) (marked flags : List Bool) : Type 0 where
  pub nodes : length flags ≡ length graph
  pub each : (x : ℕ) → IsMarked flags x ↔ IsLeading graph marked x

-- just the nodes that are reached from a marked one have a mark
pub record AreReached (graph : List (List ℕ)) (marked flags : List Bool) : Type 0 where
  pub nodes : length flags ≡ length graph
  pub each : (x : ℕ) → IsMarked flags x ↔ IsReached graph marked x
