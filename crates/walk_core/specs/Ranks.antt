-- The order in which a dependent queue takes what waits for each other: by how many nodes a node leads to, itself among
-- them, so that what it leads to comes before it; nodes on one cycle, which lead to the same nodes, by the least of
-- them, and among themselves by their own order. Nodes are of any type, and the edges are a relation between them.
use Rattle.std.specs.Prelude.{◌≡◌, ◌↔◌, ◌⊎◌, ◌<◌, ℕ, List, Contains, Some, length, map, slice_get}
use Rattle.std.specs.declared.cmp.Ordering.{Ordering}
use Rattle.std.specs.declared.cmp.Ordering.TheVariants.{Less}
use Rattle.std.specs.Ordering.{nat_cmp, ordering_then}
use Rattle.std.specs.List.Sorted.{IsStrictlySortedBy}
use Rattle.walk_core.specs.Walks.{Walk}

-- a walk leads from one node to the other; each node leads to itself
abbrev pub LeadsTo : {N : Type 0} → (N → N → Type 0) → N → N → Type 0
LeadsTo E x y = (n : ℕ) × Walk E n x y

-- each of two nodes leads to the other: they are one node, or on one cycle
pub record AreTogether {N : Type 0} (E : N → N → Type 0) (x y : N) : Type 0 where
  pub forth : LeadsTo E x y
  pub back : LeadsTo E y x

-- so many have P
pub record HasCount {N : Type 0} (cmp : N → N → Ordering) (P : N → Type 0) (count : ℕ) : Type 0 where
  pub members : List N
  pub in_order : IsStrictlySortedBy cmp members
  pub just : (x : N) → Contains members x ↔ P x
  pub size : length members ≡ count

-- it is the least that has P
pub record IsLeast {N : Type 0} (cmp : N → N → Ordering) (P : N → Type 0) (first : N) : Type 0 where
  pub here : P first
  pub least : (x : N) → P x → ¬ (cmp x first ≡ Less)

-- what a node is ordered by
pub record Rank (N : Type 0) : Type 0 where
  pub count : ℕ
  pub first : N
  pub node : N

abbrev pub rank_cmp : {N : Type 0} → (N → N → Ordering) → Rank N → Rank N → Ordering
rank_cmp cmp a b = ordering_then (nat_cmp a.count b.count) (ordering_then (cmp a.first b.first) (cmp a.node b.node))

-- it is the rank of its node: how many with P the node leads to, and the least of those that it is together with
pub record IsRank {N : Type 0} (cmp : N → N → Ordering) (E : N → N → Type 0) (P : N → Type 0) (rank : Rank N) : Type 0 where
  pub count : HasCount cmp (λ y. P y × LeadsTo E rank.node y) rank.count
  pub first : IsLeast cmp (AreTogether E rank.node) rank.first

-- the list has just the nodes with P, and their ranks rise
pub record IsInRankOrder {N : Type 0} (cmp : N → N → Ordering) (E : N → N → Type 0) (P : N → Type 0) (nodes : List N) : Type 0 where
  pub just : (x : N) → Contains nodes x ↔ P x
  pub ranks : List (Rank N)
  pub of : nodes ≡ map (λ rank. rank.node) ranks
  pub each : (rank : Rank N) → Contains ranks rank → IsRank cmp E P rank
  pub rising : IsStrictlySortedBy (rank_cmp cmp) ranks

-- the ranks are just those of the nodes with P, and rise
pub record AreRanksInOrder {N : Type 0} (cmp : N → N → Ordering) (E : N → N → Type 0) (P : N → Type 0) (ranks : List (Rank N)) : Type 0 where
  pub just : (x : N) → Contains (map (λ rank. rank.node) ranks) x ↔ P x
  pub each : (rank : Rank N) → Contains ranks rank → IsRank cmp E P rank
  pub rising : IsStrictlySortedBy (rank_cmp cmp) ranks

-- one node comes before the other in a list
pub record StandsBefore {N : Type 0} (nodes : List N) (x y : N) : Type 0 where
  pub earlier : ℕ
  pub later : ℕ
  pub before : earlier < later
  pub at_earlier : slice_get nodes earlier ≡ Some x
  pub at_later : slice_get nodes later ≡ Some y

-- the end of each edge comes before its start, or is together with it
abbrev pub EndsStandBefore : {N : Type 0} → (N → N → Type 0) → List N → Type 0
EndsStandBefore {N} E nodes = (x y : N) → Contains nodes x → E x y → StandsBefore nodes y x ⊎ AreTogether E x y

-- what is between two nodes that are together is together with them
abbrev pub TogetherStandTogether : {N : Type 0} → (N → N → Type 0) → List N → Type 0
TogetherStandTogether {N} E nodes =
    (x y z : N) → StandsBefore nodes x y → StandsBefore nodes y z → AreTogether E x z → AreTogether E x y
