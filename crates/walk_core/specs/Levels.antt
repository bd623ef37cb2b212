-- A search by levels: what it has found, and what one of its steps does.
use Rattle.std.specs.Prelude.{◌≡◌, ◌↔◌, ◌⊎◌, ◌+◌, ◌≤◌, ℕ, Bool, true, false, List, Option, None, Some, Contains}
use Rattle.std.specs.Prelude.{count_by, length, slice_get}
use Rattle.walk_core.specs.Walks.{Leads, IsDistance}
use Rattle.walk_core.specs.declared.distances.Search.{Search}
use Rattle.walk_core.specs.Digraphs.{HasEdge, IsMarked}

abbrev pub HasDistance : List (Option ℕ) → ℕ → ℕ → Type 0
HasDistance distances x n = slice_get distances x ≡ Some (Some n)

abbrev pub is_unreached : Option ℕ → Bool
is_unreached None = true
is_unreached (Some n) = false

-- how many nodes have no distance yet
abbrev pub unreached : List (Option ℕ) → ℕ
unreached distances = count_by is_unreached distances

-- the node had no distance, and is in the last level now
pub record IsNewlyReached (before : List (Option ℕ)) (level : List ℕ) (x : ℕ) : Type 0 where
  pub unknown : (m : ℕ) → ¬ HasDistance before x m
  pub listed : Contains level x

-- a step of the search: the nodes of P have distances now, the new ones among them the distance n, and just those have
-- come to the last level
pub record Discovers (P : ℕ → Type 0) (n : ℕ) (before : List (Option ℕ)) (level : List ℕ) (after : List (Option ℕ)) (grown : List ℕ) : Type 0 where
  pub nodes : length after ≡ length before
  pub all : (x : ℕ) → P x → (m : ℕ) × HasDistance after x m
  pub kept : (x m : ℕ) → HasDistance before x m → HasDistance after x m
  pub new : (x m : ℕ) → HasDistance after x m → HasDistance before x m ⊎ ((m ≡ n) × P x × IsNewlyReached before grown x)
  pub level_kept : (x : ℕ) → Contains level x → Contains grown x
  pub level_new : (x : ℕ) → Contains grown x → Contains level x ⊎ HasDistance after x n
  pub balance : length grown + unreached after ≡ length level + unreached before

-- the same, of a search before and after
abbrev pub SearchReaches : {A : Type 0} → (ℕ → Type 0) → ℕ → Search A → Search A → Type 0
SearchReaches P n before after =
    Discovers P n before.distances.items before.level.items after.distances.items after.level.items

-- an edge leads from the node to one of these
abbrev pub LeadsInto : List (List ℕ) → List ℕ → ℕ → Type 0
LeadsInto graph nodes x = (y : ℕ) × Contains nodes y × HasEdge graph x y

-- the distances up to n are known, and no others
pub record AreKnownTo (graph : List (List ℕ)) (marked : List Bool) (n : ℕ) (distances : List (Option ℕ)) : Type 0 where
  pub nodes : length distances ≡ length graph
  pub right : (x m : ℕ) → HasDistance distances x m → IsDistance (HasEdge graph) (IsMarked marked) m x
  pub near : (x m : ℕ) → HasDistance distances x m → m ≤ n
  pub found : (x m : ℕ) → m ≤ n → Leads (HasEdge graph) (IsMarked marked) m x → (k : ℕ) × HasDistance distances x k

-- the nodes at the distance n
abbrev pub IsLevel : List (Option ℕ) → ℕ → List ℕ → Type 0
IsLevel distances n level = (x : ℕ) → Contains level x ↔ HasDistance distances x n
