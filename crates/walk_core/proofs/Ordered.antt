-- The ranks of nodes, sorted, are their rank order.
use Rattle.std.proofs.Common.{◌≡◌, ◌↔◌, ◌+◌, ◌<◌, ℕ, List, [], ◌∷◌, Bool, true, false, map, length, get_or, refl, sym}
use Rattle.std.proofs.Common.{◌∙◌, ap, subst, arith}
use Rattle.std.specs.List.{Contains, IsDistinct}
use Rattle.std.specs.declared.cmp.Ordering.{Ordering}
use Rattle.std.specs.declared.cmp.Ordering.TheVariants.{Less, Equal, Greater}
use Rattle.std.specs.Ordering.{nat_cmp, ordering_reverse, ordering_then, eq_by_cmp, is_lt}
use Rattle.std.specs.List.Sorted.{IsPermutation, IsSorted, IsStrictlySortedBy}
use Rattle.std.proofs.lemmas.Cmp.{eq_by_cmp_equiv}
use Rattle.std.proofs.lemmas.List.{get_or-map, length-map}
use Rattle.std.proofs.lemmas.List.Sorted.{IsPermutation-map, IsPermutation-sym, Contains-permutation}
use Rattle.std.proofs.lemmas.Map.Keys.{IsDistinct-from_sorted, IsDistinct-IsPermutation, apart_from_distinct}
use Rattle.std.proofs.lemmas.Map.Keys.{sorted_from_all_adjacent}
use Rattle.lattice_core.specs.Keep.{numbers_exact}
use Rattle.walk_core.specs.Digraphs.{HasEdge, IsMarked}
use Rattle.walk_core.specs.Ranks.{AreRanksInOrder, LeadsTo, HasCount, Rank, rank_cmp, IsRank, IsInRankOrder}
use Rattle.walk_core.specs.RankLaws.{ranks_total}
use Rattle.lattice_core.specs.MemberLaws.{Contains-of_map}
use Rattle.walk_core.specs.Components.{AreFirsts}
use Rattle.walk_core.specs.Marks.{LeadsToCount}
use Rattle.walk_core.specs.NodeRanks.{node_rank, to_rank}
use Rattle.walk_core.specs.declared.ranks.NodeRank.{NodeRank}

abbrev pub node_rank_cmp : NodeRank → NodeRank → Ordering
node_rank_cmp a b = rank_cmp nat_cmp (to_rank a) (to_rank b)

abbrev pub node_of : NodeRank → ℕ
node_of rank = rank.node

pub count_same : (P Q : ℕ → Type 0) (count : ℕ) → ((x : ℕ) → P x ↔ Q x) → HasCount nat_cmp P count
    → HasCount nat_cmp Q count
count_same P Q count same counted = record {
  members = counted.members;
  in_order = counted.in_order;
  just = λ x. (λ here. (same x).0 ((counted.just x).0 here), λ has. (counted.just x).1 ((same x).1 has));
  size = counted.size;
}

nodes_again : (firsts counts nodes : List ℕ) → map node_of (map (node_rank firsts counts) nodes) ≡ nodes
nodes_again firsts counts [] = refl
nodes_again firsts counts (x ∷ xs) = ap (λ ys. x ∷ ys) (nodes_again firsts counts xs)

ranks_again : (ranks : List NodeRank) → map node_of ranks ≡ map (λ (rank : Rank ℕ). rank.node) (map to_rank ranks)
ranks_again [] = refl
ranks_again (rank ∷ ranks) = ap (λ ys. rank.node ∷ ys) (ranks_again ranks)

-- ---- ranks that don't fall and are of different nodes rise
node_apart : (a b : ℕ) → eq_by_cmp nat_cmp a b ≡ false → ¬ (a ≡ b)
node_apart a b apart same =
    let equal : eq_by_cmp nat_cmp b b ≡ true = (eq_by_cmp_equiv numbers_exact.total).refl b in
    let no : true ≡ false = sym equal ∙ subst (λ x. eq_by_cmp nat_cmp x b ≡ false) same apart in
    cc

last_equal : (r s t : Ordering) → ordering_then r (ordering_then s t) ≡ Equal → t ≡ Equal
last_equal Equal Equal t e = e
last_equal Equal Less t e = cc
last_equal Equal Greater t e = cc
last_equal Less s t e = cc
last_equal Greater s t e = cc

same_node : (a b : NodeRank) → node_rank_cmp a b ≡ Equal → a.node ≡ b.node
same_node a b e = numbers_exact.exact a.node b.node
    (last_equal (nat_cmp a.count b.count) (nat_cmp a.first b.first) (nat_cmp a.node b.node) e)

rises : (a b : NodeRank) (o : Ordering) → node_rank_cmp a b ≡ o → is_lt (node_rank_cmp b a) ≡ false
    → ¬ (a.node ≡ b.node) → node_rank_cmp a b ≡ Less
rises a b Less e sorted apart = e
rises a b Equal e sorted apart = absurd (apart (same_node a b e))
rises a b Greater e sorted apart =
    let back : node_rank_cmp b a ≡ Less = (ranks_total numbers_exact (λ x y. x ≡ y) (λ x. x ≡ x)).antisymm (to_rank b) (to_rank a) ∙ ap ordering_reverse e in
    let no : true ≡ false = sym (ap is_lt back) ∙ sorted in
    cc

module _ (graph : List (List ℕ)) (kept : List Bool) (firsts counts targets : List ℕ) (sorted : List NodeRank)
    (are : AreFirsts graph firsts)
    (just : (x : ℕ) → Contains targets x ↔ IsMarked kept x) (in_order : IsStrictlySortedBy nat_cmp targets)
    (within : (x : ℕ) → Contains targets x → x < length graph)
    (counted : (x : ℕ) → Contains targets x → LeadsToCount graph targets x (get_or counts (get_or firsts x 0) 0))
    (moved : IsPermutation (map (node_rank firsts counts) targets) sorted)
    (ascends : IsSorted node_rank_cmp sorted) where
  rank_of_target : (rank : NodeRank) → Contains sorted rank
      → (x : ℕ) × Contains targets x × (node_rank firsts counts x ≡ rank)
  rank_of_target rank here = Contains-of_map (node_rank firsts counts) targets rank
      (Contains-permutation sorted (map (node_rank firsts counts) targets) rank (IsPermutation-sym (map (node_rank firsts counts) targets) sorted moved) here)

  is_rank : (x : ℕ) → Contains targets x
      → IsRank nat_cmp (HasEdge graph) (IsMarked kept) (to_rank (node_rank firsts counts x))
  is_rank x here = record {
    count = count_same (λ y. Contains targets y × LeadsTo (HasEdge graph) x y)
        (λ y. IsMarked kept y × LeadsTo (HasEdge graph) x y) (get_or counts (get_or firsts x 0) 0)
        (λ y. (λ is. ((just y).0 is.0, is.1), λ is. ((just y).1 is.0, is.1))) (counted x here);
    first = are.each x (within x here);
  }

  nodes_moved : IsPermutation targets (map node_of sorted)
  nodes_moved = subst (λ ys. IsPermutation ys (map node_of sorted)) (nodes_again firsts counts targets)
      (IsPermutation-map node_of (map (node_rank firsts counts) targets) sorted moved)

  distinct : IsDistinct (eq_by_cmp nat_cmp) (map node_of sorted)
  distinct = IsDistinct-IsPermutation (eq_by_cmp nat_cmp) (eq_by_cmp_equiv numbers_exact.total).symm targets
      (map node_of sorted) nodes_moved (IsDistinct-from_sorted nat_cmp targets in_order)

  none : NodeRank
  none = record { count = 0; first = 0; node = 0 }

  next_rises : (k : ℕ) → k + 1 < length sorted
      → node_rank_cmp (get_or sorted k none) (get_or sorted (k + 1) none) ≡ Less
  next_rises k less =
      let a = get_or sorted k none in
      let b = get_or sorted (k + 1) none in
      let nodes_at : (i : ℕ) → i < length sorted → get_or (map node_of sorted) i 0 ≡ (get_or sorted i none).node = λ i inside. get_or-map node_of sorted i none 0 inside in
      let apart = apart_from_distinct (eq_by_cmp nat_cmp) (map node_of sorted) k (k + 1) 0 distinct (omega arith) (omega (arith, less, length-map sorted node_of)) in
      rises a b (node_rank_cmp a b) refl (ascends k none (omega arith) less)
      (λ same. node_apart (get_or (map node_of sorted) k 0) (get_or (map node_of sorted) (k + 1) 0) apart (nodes_at k (omega (arith, less)) ∙ same ∙ sym (nodes_at (k + 1) less)))

  rising : IsStrictlySortedBy (rank_cmp nat_cmp) (map to_rank sorted)
  rising = sorted_from_all_adjacent (ranks_total numbers_exact (HasEdge graph) (IsMarked kept)) (map to_rank sorted)
      (to_rank none) (λ k less.
      let short : k + 1 < length sorted = omega (arith, less, length-map sorted to_rank) in
      let first : get_or (map to_rank sorted) k (to_rank none) ≡ to_rank (get_or sorted k none) = get_or-map to_rank sorted k none (to_rank none) (omega (arith, short)) in
      let next : get_or (map to_rank sorted) (k + 1) (to_rank none) ≡ to_rank (get_or sorted (k + 1) none) = get_or-map to_rank sorted (k + 1) none (to_rank none) short in
      subst (λ r. rank_cmp nat_cmp r (get_or (map to_rank sorted) (k + 1) (to_rank none)) ≡ Less) (sym first)
      (subst (λ r. rank_cmp nat_cmp (to_rank (get_or sorted k none)) r ≡ Less) (sym next) (next_rises k short)))

  pub ranks_in_order : AreRanksInOrder nat_cmp (HasEdge graph) (IsMarked kept) (map to_rank sorted)
  ranks_in_order = record {
    just = λ x. (
      λ here.
          let there = subst (λ ys. Contains ys x) (sym (ranks_again sorted)) here in
          (just x).0 (Contains-permutation (map node_of sorted) targets x (IsPermutation-sym targets (map node_of sorted) nodes_moved) there),
      λ marked. subst (λ ys. Contains ys x) (ranks_again sorted)
          (Contains-permutation targets (map node_of sorted) x nodes_moved ((just x).1 marked)),
    );
    each = λ rank here.
        let found = Contains-of_map to_rank sorted rank here in
        let target = rank_of_target found.0 found.1 in
        subst (IsRank nat_cmp (HasEdge graph) (IsMarked kept)) (ap to_rank target.2 ∙ found.2)
        (is_rank target.0 target.1);
    rising = rising;
  }

-- the nodes of ranks in order are in rank order
pub in_rank_order : (cmp : ℕ → ℕ → Ordering) (E : ℕ → ℕ → Type 0) (P : ℕ → Type 0) (ranks : List NodeRank)
    (nodes : List ℕ) → AreRanksInOrder cmp E P (map to_rank ranks)
    → nodes ≡ map node_of ranks → IsInRankOrder cmp E P nodes
in_rank_order cmp E P ranks nodes are of = record {
  just = λ x. (
    λ here. (are.just x).0 (subst (λ ys. Contains ys x) (of ∙ ranks_again ranks) here),
    λ has. subst (λ ys. Contains ys x) (sym (of ∙ ranks_again ranks)) ((are.just x).1 has),
  );
  ranks = map to_rank ranks;
  of = of ∙ ranks_again ranks;
  each = are.each;
  rising = are.rising;
}
