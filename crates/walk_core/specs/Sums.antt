-- Counts that add up: where a cycle leads into at most one other, it leads to its own nodes and to those that the other
-- leads to. Each cycle is named by its first node, and a node that is on none is one by itself.
use Rattle.std.specs.Prelude.{◌≡◌, ◌≢◌, ◌⊎◌, ◌+◌, ◌-◌, ◌<◌, ◌^◌, ℕ, Bool, List, Option, None, Some, Contains, length}
use Rattle.std.specs.Prelude.{min, option_map, slice_index, slice_index_or, unwrap_or}
use Rattle.std.specs.Ordering.{nat_cmp}
use Rattle.walk_core.specs.Ranks.{HasCount, LeadsTo}
use Rattle.walk_core.specs.Digraphs.{HasEdge, IsMarked}
use Rattle.walk_core.specs.Marks.{LeadsToCount}

abbrev pub option_at : List (Option ℕ) → ℕ → Option ℕ
option_at options x = slice_index_or options x None

-- a cycle leads into another one
pub record IsNext (graph : List (List ℕ)) (firsts : List ℕ) (from to : ℕ) : Type 0 where
  pub leads : LeadsTo (HasEdge graph) from to
  pub first : slice_index firsts to ≡ to
  pub within : to < length graph
  pub apart : to ≢ from

-- each cycle to which another is assigned leads into it
pub record AreNexts (graph : List (List ℕ)) (firsts : List ℕ) (nexts : List (Option ℕ)) : Type 0 where
  pub size : length nexts ≡ length graph
  pub each : (from to : ℕ) → option_at nexts from ≡ Some to → IsNext graph firsts from to

-- a node is on the cycle of a first node, or on the one that is assigned to this cycle
abbrev pub IsHereOrNext : List ℕ → ℕ → Option ℕ → ℕ → Type 0
IsHereOrNext firsts first next x = (slice_index firsts x ≡ first) ⊎ (next ≡ Some (slice_index firsts x))

-- a cycle of these nodes without a fork leads into no other than the one that is assigned to it
pub record AreForks (graph : List (List ℕ)) (firsts : List ℕ) (nexts : List (Option ℕ)) (nodes : List ℕ) (forks : List Bool) : Type 0 where
  pub size : length forks ≡ length graph
  pub each : (x y : ℕ) → Contains nodes x → HasEdge graph x y → ¬ IsMarked forks (slice_index firsts x)
      → IsHereOrNext firsts (slice_index firsts x) (option_at nexts (slice_index firsts x)) y

-- how many of some nodes are on each cycle
abbrev pub AreSizes : List ℕ → List ℕ → List ℕ → Type 0
AreSizes firsts nodes sizes = (first : ℕ) → first < length firsts
    → HasCount nat_cmp (λ y. Contains nodes y × (slice_index firsts y ≡ first)) (slice_index sizes first)

-- each sum that is there is how many of some nodes its node leads to
pub record AreSums (graph : List (List ℕ)) (targets : List ℕ) (sums : List (Option ℕ)) : Type 0 where
  pub size : length sums ≡ length graph
  pub each : (first sum : ℕ) → option_at sums first ≡ Some sum → LeadsToCount graph targets first sum

-- there is no sum at the node's first node
abbrev pub LacksSum : List ℕ → List (Option ℕ) → ℕ → Type 0
LacksSum firsts sums x = option_at sums (slice_index firsts x) ≡ None

-- each count is the sum, where there is one, and else as it was
pub record PutsSums (sums : List (Option ℕ)) (counts now : List ℕ) : Type 0 where
  pub size : length now ≡ length counts
  pub each : (x : ℕ) → slice_index now x ≡ unwrap_or (option_at sums x) (slice_index counts x)

-- the size of a cycle and the sum of the one that it leads into, if there is one
abbrev pub sum_with : ℕ → List (Option ℕ) → Option ℕ → Option ℕ
sum_with size sums None = Some size
sum_with size sums (Some next) = option_map (λ sum. min (sum + size) (2 ^ 64 - 1)) (option_at sums next)

-- an end that is on another cycle
pub record IsWayOut (firsts : List ℕ) (first : ℕ) (ends : List ℕ) (to : ℕ) : Type 0 where
  pub end : ℕ
  pub listed : Contains ends end
  pub is : slice_index firsts end ≡ to
  pub apart : to ≢ first

-- an end that is neither on the cycle of a first node nor on the one that is assigned
pub record IsElsewhere (firsts : List ℕ) (first : ℕ) (next : Option ℕ) (end : ℕ) : Type 0 where
  pub apart : slice_index firsts end ≢ first
  pub other : next ≢ Some (slice_index firsts end)
