-- The items that were judged place by place, with the ready ones in rank order, are the verdicts.
use Rattle.std.proofs.Common.{◌≡◌, ◌↔◌, ◌<◌, ℕ, zero, suc, Bool, true, List, [], ◌∷◌, Contains, Option, Some, None, map}
use Rattle.std.proofs.Common.{length, is_none, refl, sym, ◌∙◌, ap, subst, arith}
use Rattle.std.specs.Prelude.{slice_get, option_map}
use Rattle.std.proofs.lemmas.List.{length-map}
use Rattle.std.proofs.lemmas.Option.{slice_get-map, slice_get_within}
use Rattle.lattice_core.specs.MemberLaws.{Contains-to_map}
use Rattle.lattice_core.specs.PlaceLaws.{at_below}
use Rattle.gate_rules.specs.Rules.{GateRules}
use Rattle.state_core.specs.declared.item.Item.{Item}
use Rattle.state_core.specs.State.{State}
use Rattle.state_core.specs.Items.{item_cmp}
use Rattle.walk_core.specs.Digraphs.{HasEdge, IsMarked, IsWithin}
use Rattle.walk_core.specs.Edges.{AreDistances-before}
use Rattle.walk_core.specs.Ranks.{AreRanksInOrder, IsInRankOrder, Rank}
use Rattle.walk_core.specs.Walks.{Walk}
use Rattle.graph_core.specs.Dependencies.{IsDependency}
use Rattle.graph_core.specs.ItemGraph.{ItemGraph, IsAt, IsGraphOf}
use Rattle.ready_core.specs.declared.verdicts.Refusal.{Refusal}
use Rattle.ready_core.specs.Refusals.{IsReady}
use Rattle.ready_core.specs.Verdicts.{Judged}
use Rattle.ready_core.specs.declared.ranked.ItemRank.{ItemRank}
use Rattle.ready_core.specs.ItemRanks.{to_rank}
use Rattle.ready_core.specs.RankedVerdicts.{AreReadyRanks, AreRankedVerdictsOn, RankedVerdicts}
use Rattle.ready_core.specs.Causes.{AreCauses, AreJudged, AreSearched, IsJudgement, IsSafeItem, flags_of, safe_flags}
use Rattle.ready_core.proofs.Ranking.{safe_at, unsafe_at}
use Rattle.ready_core.proofs.Judging.{AreSplit, all_judged, decided_all, ready_is_safe}
use Rattle.ready_core.proofs.GateOrder.{in_gate_order}

none_of : (rank : Option ℕ) → is_none rank ≡ true → rank ≡ None
none_of None is = refl
none_of (Some rank) is = cc

flag_of : (ranks : List (Option ℕ)) (place : ℕ) (found : Option (Option ℕ)) → slice_get ranks place ≡ found
    → option_map is_none found ≡ Some true → slice_get ranks place ≡ Some None
flag_of ranks place None at is = cc
flag_of ranks place (Some rank) at is = let none : is_none rank ≡ true = one (is_none rank) is in at
    ∙ ap Some (none_of rank none) where
      one : (b : Bool) → Some b ≡ Some true → b ≡ true
      one b e = cc

pub unranked_at : (ranks : List (Option ℕ)) (place : ℕ) → IsMarked (safe_flags ranks) place
    → slice_get ranks place ≡ Some None
unranked_at ranks place marked =
    flag_of ranks place (slice_get ranks place) refl (sym (slice_get-map is_none ranks place) ∙ marked)

pub at_unranked : (ranks : List (Option ℕ)) (place : ℕ) → slice_get ranks place ≡ Some None
    → IsMarked (safe_flags ranks) place
at_unranked ranks place none = slice_get-map is_none ranks place ∙ ap (option_map is_none) none

-- the places without a rank hold the ends of their edges
flag_on : (ranks : List (Option ℕ)) (x y : ℕ) (found : Option ℕ) → slice_get ranks x ≡ Some None
    → slice_get ranks y ≡ Some found
    → ((m : ℕ) → slice_get ranks y ≡ Some (Some m) → (n : ℕ) × (slice_get ranks x ≡ Some (Some n)))
    → IsMarked (safe_flags ranks) y
flag_on ranks x y None none at before = at_unranked ranks y at
flag_on ranks x y (Some m) none at before = let there = (before m at).1 in cc

pub flags_closed : (graph : ItemGraph) (causes : List (Option Refusal)) (ranks : List (Option ℕ))
    → AreSearched graph causes ranks → (x y : ℕ) → IsMarked (safe_flags ranks) x → HasEdge graph.ends x y
    → IsMarked (safe_flags ranks) y
flags_closed graph causes ranks searched x y marked edge =
    let within = searched.within x y edge in
    let found = at_below ranks y (omega (arith, within, searched.distances.nodes)) in
    flag_on ranks x y found.0 (unranked_at ranks x marked) found.1
    (λ m at. AreDistances-before graph.ends (flags_of causes) ranks searched.distances x y m edge at)

-- what leads on from a place is a place
pub leads_within : (graph : List (List ℕ)) → IsWithin graph → (n x y : ℕ) → x < length graph
    → Walk (HasEdge graph) n x y → y < length graph
leads_within graph within zero x y here same = subst (λ z. z < length graph) same here
leads_within graph within (suc n) x y here walk = leads_within graph within n walk.0 y (within x walk.0 walk.1) walk.2

-- the items of ranks are their nodes
pub items_again : (ranks : List ItemRank)
    → map (λ (rank : ItemRank). rank.node) ranks ≡ map (λ (rank : Rank Item). rank.node) (map to_rank ranks)
items_again [] = refl
items_again (rank ∷ ranks) = ap (λ items. rank.node ∷ items) (items_again ranks)

-- ranks in order are those of a list in rank order
ranks_order : (E : Item → Item → Type 0) (P : Item → Type 0) (ranks : List (Rank Item))
    → AreRanksInOrder item_cmp E P ranks → IsInRankOrder item_cmp E P (map (λ (rank : Rank Item). rank.node) ranks)
ranks_order E P ranks are = record { just = are.just; ranks = ranks; of = refl; each = are.each; rising = are.rising }

module _ (gate : GateRules) (state : State) (graph : ItemGraph) (causes : List (Option Refusal))
    (ranks : List (Option ℕ)) (verdicts : RankedVerdicts)
    (is : IsGraphOf gate state graph) (of : AreCauses gate state graph.items causes)
    (judgement : IsJudgement graph causes ranks verdicts.ranks verdicts.out) where
  split : Judged
  split = record { ready = judgement.safe; out = verdicts.out }

  judged : AreJudged gate state graph.items (length graph.items) judgement.safe verdicts.out
  judged = judgement.judged gate state is of

  sizes : length (safe_flags ranks) ≡ length graph.items
  sizes = length-map ranks is_none ∙ judgement.searched.distances.nodes ∙ judgement.searched.nodes

  unranked_place : (place : ℕ) (item : Item) (found : Option ℕ) → IsAt graph.items place item
      → IsSafeItem gate state item → slice_get ranks place ≡ Some found → slice_get ranks place ≡ Some None
  unranked_place place item None here safe at = at
  unranked_place place item (Some rank) here safe at =
      absurd (unsafe_at gate state graph causes ranks is of judgement.searched place item rank here at safe)

  some_rank : (place : ℕ) → place < length ranks → (found : Option ℕ) × (slice_get ranks place ≡ Some found)
  some_rank place within = at_below ranks place within

  are : AreSplit gate state graph.items split
  unfolding split
  are = all_judged gate state graph split is judged (decided_all gate state graph.items causes of)

  abbrev IsReadyHere : Item → Type 0
  IsReadyHere item = Contains graph.items item × IsReady gate state item

  says : (place : ℕ) (item : Item) → IsAt graph.items place item → IsMarked (safe_flags ranks) place ↔ IsReadyHere item
  unfolding split
  says place item here = (
    λ marked.
        let safe = safe_at gate state graph causes ranks is of judgement.searched place item here (unranked_at ranks place marked) in
        (are.ready item).0 ((judged.ready item).1 (record { place = place; before = slice_get_within graph.items place item here; here = here }, safe)),
    λ ready.
        let within = slice_get_within graph.items place item here in
        let found = some_rank place (omega (arith, within, judgement.searched.distances.nodes, judgement.searched.nodes)) in
        at_unranked ranks place (unranked_place place item found.0 here (ready_is_safe gate state graph split is judged item ready.1) found.1),
  )

  pub ordered : AreRanksInOrder item_cmp (IsDependency gate state) IsReadyHere verdicts.ranks
  ordered = subst (AreRanksInOrder item_cmp (IsDependency gate state) IsReadyHere) (sym judgement.ranks_at)
      (in_gate_order (IsDependency gate state) graph.items graph.ends is.ends is.items.in_order is.items.held IsReadyHere (safe_flags ranks) sizes says (λ item ready. ready.0)
      judgement.places judgement.in_order)

  -- what leads on from an item of the graph stays in it
  walk_held : (n : ℕ) (x y : Item) → Contains graph.items x → Walk (IsDependency gate state) n x y
      → Contains graph.items y
  walk_held zero x y here same = subst (Contains graph.items) same here
  walk_held (suc n) x y here walk = walk_held n walk.0 y (is.items.held x walk.0 here walk.1) walk.2

  ready_ranks : AreReadyRanks gate state verdicts.ranks
  ready_ranks rank has =
      let its = ordered.each rank has in
      let here = ((ordered.just rank.node).0 (Contains-to_map (λ (r : Rank Item). r.node) verdicts.ranks rank has)).0 in
      record {
        count = record {
          members = its.count.members;
          in_order = its.count.in_order;
          just = λ y. (
            λ member. let found = (its.count.just y).0 member in (found.0.1, found.1),
            λ found. (its.count.just y).1 ((walk_held found.1.0 rank.node y here found.1.1, found.0), found.1),
          );
          size = its.count.size;
        };
        first = its.first;
      }

  pub all_ordered : AreRankedVerdictsOn gate state graph.items verdicts
  unfolding split
  all_ordered = record {
    part = is.items;
    verdicts = record {
      ready = ordered.just;
      out = are.out;
      refused = are.refused;
      ready_in_order = ranks_order (IsDependency gate state) IsReadyHere verdicts.ranks ordered;
      out_in_order = are.out_in_order;
    };
    ranks = ready_ranks;
  }
