-- What cycles lead into, and how many nodes are on each.
use Rattle.std.proofs.Common.{◌≡◌, inl, inr, ◌+◌, ◌<◌, ◌≤◌, ◌++◌, ℕ, Bool, true, List, [], ◌∷◌, Option, None, Some, sym}
use Rattle.std.proofs.Common.{◌∙◌, ap, subst, length, replicate, set, take, drop, get_or, arith}
use Rattle.std.specs.List.{Contains}
use Rattle.std.specs.Ordering.{nat_cmp}
use Rattle.std.specs.List.Sorted.{IsStrictlySortedBy}
use Rattle.std.proofs.lemmas.Bool.{cases_eq}
use Rattle.std.proofs.lemmas.List.{get_or-set_same, get_or-set_other, length-replicate, length-set, length-take}
use Rattle.std.proofs.lemmas.List.{take-append-drop, take_all, take_more}
use Rattle.lattice_core.specs.MemberLaws.{Contains-none}
use Rattle.walk_core.specs.Digraphs.{HasEdge, IsMarked}
use Rattle.walk_core.specs.Ranks.{LeadsTo, HasCount}
use Rattle.walk_core.specs.RankLaws.{LeadsTo-trans, LeadsTo-edge}
use Rattle.walk_core.specs.Components.{AreFirsts}
use Rattle.walk_core.specs.Sums.{option_at, IsNext, AreNexts, IsHereOrNext, AreForks, AreSizes, IsWayOut}
use Rattle.walk_core.specs.EdgeLaws.{Contains-more}
use Rattle.walk_core.specs.Writes.{same_read, slice_get-set_other, slice_get-set_same}
use Rattle.walk_core.specs.FirstLaws.{first_within}
use Rattle.walk_core.proofs.Blocks.{count_none_of, count_within, count_yes, count_no, sorted_part_left}
use Rattle.walk_core.proofs.Adding.{first_again}

-- ---- what holds of the first members of a list, and of one more

module _ (P : ℕ → Type 0) (xs : List ℕ) (i end : ℕ) where
  pub each_more : i < length xs → end ≡ get_or xs i end → ((x : ℕ) → Contains (take i xs) x → P x) → P end → (x : ℕ)
      → Contains (take (i + 1) xs) x → P x
  each_more within is earlier has x here = elim ((Contains-more xs i x end within is).0 here) [
    | inl old ↦ earlier x old
    | inr same ↦ subst P (sym same) has
  ]

  pub each_all : length xs ≤ i → ((x : ℕ) → Contains (take i xs) x → P x) → (x : ℕ) → Contains xs x → P x
  each_all past each x here = each x (subst (λ ys. Contains ys x) (sym (take_all i xs past)) here)

-- ---- the next cycles

module _ (graph : List (List ℕ)) (firsts : List ℕ) where
  pub nexts_none : (size : ℕ) → size ≡ length graph → AreNexts graph firsts (replicate size None)
  nexts_none size sized = record {
    size = length-replicate size None ∙ sized;
    each = λ from to is. let no_next : None ≡ Some to = sym (same_read size from None) ∙ is in cc;
  }

  module _ (are : AreFirsts graph firsts) (node : ℕ) (within : node < length graph) (ends : List ℕ)
      (are_ends : (y : ℕ) → Contains ends y → HasEdge graph node y)
      (ends_within : (y : ℕ) → Contains ends y → y < length graph) where
    pub is_next : (to : ℕ) → IsWayOut firsts (get_or firsts node 0) ends to
        → IsNext graph firsts (get_or firsts node 0) to
    is_next to way =
        let end_within = ends_within way.end way.listed in
        let out : LeadsTo (HasEdge graph) node to = LeadsTo-edge (HasEdge graph) node way.end to (are_ends way.end way.listed) (subst (λ r. LeadsTo (HasEdge graph) way.end r) way.is (are.each way.end end_within).here.forth) in
        record {
          leads = LeadsTo-trans (HasEdge graph) (get_or firsts node 0) node to (are.each node within).here.back out;
          first = subst (λ r. get_or firsts r 0 ≡ r) way.is (first_again graph firsts are way.end end_within);
          within = subst (λ r. r < length graph) way.is (first_within graph firsts are way.end end_within);
          apart = way.apart;
        }

    pub nexts_more : (nexts : List (Option ℕ)) (to : ℕ) → AreNexts graph firsts nexts
        → IsWayOut firsts (get_or firsts node 0) ends to
        → AreNexts graph firsts (set nexts (get_or firsts node 0) (Some to))
    nexts_more nexts to were way =
        let first = get_or firsts node 0 in
        let inside : first < length nexts = let less = first_within graph firsts are node within in omega (arith, less, were.size) in
        record {
          size = length-set nexts first (Some to) ∙ were.size;
          each = λ from other at. elim (cases_eq from first) [
            | inl same ↦
                let here : option_at (set nexts first (Some to)) first ≡ Some other = subst (λ z. option_at (set nexts first (Some to)) z ≡ Some other) same at in
                let found : Some to ≡ Some other = sym (get_or-set_same nexts first (Some to) None inside) ∙ here in
                let e : to ≡ other = cc in
                subst (λ z. IsNext graph firsts z other) (sym same)
                (subst (IsNext graph firsts first) e (is_next to way))
            | inr apart ↦ were.each from other (sym (get_or-set_other nexts first from (Some to) None apart) ∙ at)
          ];
        }

-- ---- the forks

module _ (graph : List (List ℕ)) (firsts : List ℕ) (nexts : List (Option ℕ)) where
  pub forks_none : (forks : List Bool) → length forks ≡ length graph → AreForks graph firsts nexts [] forks
  forks_none forks sized = record { size = sized; each = λ x y here. absurd (Contains-none x here) }

  module _ (nodes : List ℕ) (i node : ℕ) (within : i < length nodes) (is : node ≡ get_or nodes i node)
      (forks : List Bool) (were : AreForks graph firsts nexts (take i nodes) forks) where
    -- the node's edges stay or go on
    pub forks_keep : ((y : ℕ) → HasEdge graph node y → IsHereOrNext firsts (get_or firsts node 0) (option_at nexts (get_or firsts node 0)) y) → AreForks graph firsts nexts (take (i + 1) nodes) forks
    forks_keep goes = record {
      size = were.size;
      each = λ x y here edge free. elim ((Contains-more nodes i x node within is).0 here) [
        | inl earlier ↦ were.each x y earlier edge free
        | inr same ↦ subst (λ z. IsHereOrNext firsts (get_or firsts z 0) (option_at nexts (get_or firsts z 0)) y)
            (sym same) (goes y (subst (λ z. HasEdge graph z y) same edge))
      ];
    }

    -- the node's cycle is a fork
    pub forks_mark : get_or firsts node 0 < length forks
        → AreForks graph firsts nexts (take (i + 1) nodes) (set forks (get_or firsts node 0) true)
    forks_mark inside =
        let first = get_or firsts node 0 in
        let marked : IsMarked (set forks first true) first = slice_get-set_same forks first true inside in
        record {
          size = length-set forks first true ∙ were.size;
          each = λ x y here edge free. elim ((Contains-more nodes i x node within is).0 here) [
            | inl earlier ↦ were.each x y earlier edge (λ was. elim (cases_eq (get_or firsts x 0) first) [
              | inl same ↦ free (subst (IsMarked (set forks first true)) (sym same) marked)
              | inr apart ↦ free (slice_get-set_other forks first true (get_or firsts x 0) apart ∙ was)
            ])
            | inr same ↦ absurd
                (free (subst (λ z. IsMarked (set forks first true) (get_or firsts z 0)) (sym same) marked))
          ];
        }

-- ---- the sizes

module _ (firsts : List ℕ) where
  pub sizes_none : (sizes : List ℕ) → ((first : ℕ) → first < length firsts → get_or sizes first 0 ≡ 0)
      → AreSizes firsts [] sizes
  sizes_none sizes zeros first within = subst (HasCount nat_cmp (λ y. Contains [] y × (get_or firsts y 0 ≡ first)))
      (sym (zeros first within)) (count_none_of (λ y. get_or firsts y 0 ≡ first))

  taken_sorted : (nodes : List ℕ) (i : ℕ) → IsStrictlySortedBy nat_cmp nodes → IsStrictlySortedBy nat_cmp (take i nodes)
  taken_sorted nodes i in_order = sorted_part_left (take i nodes) (drop i nodes)
      (subst (IsStrictlySortedBy nat_cmp) (sym (take-append-drop i nodes)) in_order)

  -- there are no more nodes on a cycle than nodes
  pub size_small : (nodes : List ℕ) (i : ℕ) → IsStrictlySortedBy nat_cmp nodes → (first size : ℕ)
      → HasCount nat_cmp (λ y. Contains (take i nodes) y × (get_or firsts y 0 ≡ first)) size → size ≤ i
  size_small nodes i in_order first size counted =
      let few = count_within (λ y. get_or firsts y 0 ≡ first) (take i nodes) size (taken_sorted nodes i in_order) counted in
      omega (arith, few, length-take i nodes)

  module _ (nodes : List ℕ) (i node : ℕ) (within : i < length nodes) (is : node ≡ get_or nodes i node)
      (in_order : IsStrictlySortedBy nat_cmp nodes) (sizes : List ℕ)
      (inside : get_or firsts node 0 < length sizes) (were : AreSizes firsts (take i nodes) sizes) where
    pub sizes_more : AreSizes firsts (take (i + 1) nodes)
        (set sizes (get_or firsts node 0) (get_or sizes (get_or firsts node 0) 0 + 1))
    sizes_more first first_inside =
        let own = get_or firsts node 0 in
        let more : take (i + 1) nodes ≡ take i nodes ++ node ∷ [] = take_more nodes i node within ∙ ap (λ e. take i nodes ++ e ∷ []) (sym is) in
        let sorted : IsStrictlySortedBy nat_cmp (take i nodes ++ node ∷ []) = subst (IsStrictlySortedBy nat_cmp) more (taken_sorted nodes (i + 1) in_order) in
        let Count : List ℕ → ℕ → Type 0 = λ done count. HasCount nat_cmp (λ y. Contains done y × (get_or firsts y 0 ≡ first)) count in
        let now = set sizes own (get_or sizes own 0 + 1) in
        let counted : Count (take i nodes ++ node ∷ []) (get_or now first 0) = elim (cases_eq first own) [
          | inl same ↦
              let read : get_or now first 0 ≡ get_or sizes first 0 + 1 = ap (λ z. get_or now z 0) same ∙ get_or-set_same sizes own (get_or sizes own 0 + 1) 0 inside ∙ ap (λ z. get_or sizes z 0 + 1) (sym same) in
              subst (Count (take i nodes ++ node ∷ [])) (sym read) (count_yes (λ y. get_or firsts y 0 ≡ first) (take i nodes) node (get_or sizes first 0) sorted (sym same) (were first first_inside))
          | inr apart ↦
              let read : get_or now first 0 ≡ get_or sizes first 0 = get_or-set_other sizes own first (get_or sizes own 0 + 1) 0 apart in
              subst (Count (take i nodes ++ node ∷ [])) (sym read) (count_no (λ y. get_or firsts y 0 ≡ first) (take i nodes) node (get_or sizes first 0) (λ same. apart (sym same)) (were first first_inside))
        ] in
        subst (λ done. Count done (get_or now first 0)) (sym more) counted
