-- Rank order over places is rank order over the items that are there.
use Rattle.std.proofs.Common.{◌≡◌, ◌↔◌, inl, inr, ◌<◌, ℕ, zero, suc, List, [], ◌∷◌, Bool, Contains, map, length, refl}
use Rattle.std.proofs.Common.{◌∙◌, ap, subst, arith}
use Rattle.std.specs.List.{AllZip}
use Rattle.std.specs.declared.cmp.Ordering.{Ordering}
use Rattle.std.specs.declared.cmp.Ordering.TheVariants.{Less, Equal, Greater}
use Rattle.std.specs.Ordering.{nat_cmp, ordering_then, MatchOrdering}
use Rattle.std.specs.Cmp.{tied_itself}
use Rattle.std.specs.List.Sorted.{IsStrictlySortedBy}
use Rattle.std.proofs.lemmas.Bool.{cases_lt}
use Rattle.std.proofs.lemmas.Cmp.{ranked}
use Rattle.std.proofs.lemmas.List.{length-map}
use Rattle.std.proofs.lemmas.List.Elements.{All-from_recursion, All-contains}
use Rattle.std.proofs.lemmas.Option.{slice_get_within, slice_get-get_or, get_or_from_slice_get}
use Rattle.lattice_core.specs.Keep.{numbers_exact}
use Rattle.lattice_core.specs.MemberLaws.{Contains-cons_cases, Contains-first, Contains-later, Contains-none}
use Rattle.lattice_core.specs.MemberLaws.{Contains-of_map, Contains-to_map, sorted_append}
use Rattle.lattice_core.specs.PlaceLaws.{Contains-at, at_Contains, one_item, one_place, sorted_at, not_below_itself}
use Rattle.lattice_core.specs.PlaceLaws.{earlier_or_same}
use Rattle.lattice_core.specs.ZipLaws.{length-AllZip}
use Rattle.walk_core.specs.Digraphs.{HasEdge, IsMarked}
use Rattle.walk_core.specs.Ranks.{LeadsTo, AreTogether, HasCount, Rank, rank_cmp, IsRank, AreRanksInOrder}
use Rattle.walk_core.specs.RankLaws.{nat_cmp-less}
use Rattle.state_core.specs.declared.item.Item.{Item}
use Rattle.state_core.specs.Items.{item_cmp}
use Rattle.state_core.specs.ItemLaws.{items_total}
use Rattle.graph_core.specs.ItemGraph.{IsAt, AreEnds}
use Rattle.ready_core.specs.Causes.{item_at, rank_at}
use Rattle.graph_core.specs.WalkLaws.{ends_within, Leads-items, Leads-places}

-- ---- lists in order, made of others
none_sorted : {X : Type 0} (cmp : X → X → Ordering) → IsStrictlySortedBy cmp []
unfolding IsStrictlySortedBy
none_sorted cmp = tt

one_sorted : {X : Type 0} (cmp : X → X → Ordering) (x : X) → IsStrictlySortedBy cmp (x ∷ [])
unfolding IsStrictlySortedBy
one_sorted cmp x = (tt, tt)

rest_sorted : {X : Type 0} (cmp : X → X → Ordering) (x : X) (xs : List X) → IsStrictlySortedBy cmp (x ∷ xs)
    → IsStrictlySortedBy cmp xs
unfolding IsStrictlySortedBy
rest_sorted cmp x xs sorted = sorted.1

above : {X : Type 0} (cmp : X → X → Ordering) (x y : X) (xs : List X) → IsStrictlySortedBy cmp (x ∷ xs) → Contains xs y
    → cmp x y ≡ Less
unfolding IsStrictlySortedBy
above cmp x y xs sorted here =
    All-contains (λ z. cmp x z ≡ Less) xs y (All-from_recursion (λ z. cmp x z ≡ Less) xs sorted.0) here

one_alone : {X : Type 0} (x y : X) → Contains (x ∷ []) y → x ≡ y
one_alone x y here = elim
    (Contains-cons_cases x [] y here) [ inl same ↦ same | inr none ↦ absurd (Contains-none y none) ]

sorted_mapped : {X Y : Type 0} (R : X → X → Ordering) (S : Y → Y → Ordering) (f : X → Y) (xs : List X)
    → IsStrictlySortedBy R xs
    → ((a b : X) → Contains xs a → Contains xs b → R a b ≡ Less → S (f a) (f b) ≡ Less)
    → IsStrictlySortedBy S (map f xs)
sorted_mapped R S f [] sorted carries = none_sorted S
sorted_mapped R S f (x ∷ xs) sorted carries =
    sorted_append S (f x ∷ []) (map f xs) (one_sorted S (f x)) (sorted_mapped R S f xs (rest_sorted R x xs sorted) (λ a b p q. carries a b (Contains-later x xs a p) (Contains-later x xs b q)))
    (λ a b p q.
    let found = Contains-of_map f xs b q in
    let less = carries x found.0 (Contains-first x xs) (Contains-later x xs found.0 found.1) (above R x found.0 xs sorted found.1) in
    subst (λ z. S z b ≡ Less) (one_alone (f x) a p) (subst (λ z. S (f x) z ≡ Less) found.2 less))

-- ---- comparisons
below_of : (a b : ℕ) → nat_cmp a b ≡ Less → a < b
below_of a b e = subst (λ o. MatchOrdering o (a < b) (a ≡ b) (b < a)) e (ranked a b (nat_cmp a b) refl)

carried : (r s t s' t' : Ordering) → ordering_then r (ordering_then s t) ≡ Less → (s ≡ Less → s' ≡ Less)
    → (s ≡ Equal → s' ≡ Equal) → (t ≡ Less → t' ≡ Less) → ordering_then r (ordering_then s' t') ≡ Less
carried Less s t s' t' e p q u = refl
carried Greater s t s' t' e p q u = cc
carried Equal Less t s' t' e p q u = ap (λ o. ordering_then o t') (p refl)
carried Equal Greater t s' t' e p q u = cc
carried Equal Equal t s' t' e p q u = ap (λ o. ordering_then o t') (q refl) ∙ u e

module _ (E : Item → Item → Type 0) (items : List Item) (graph : List (List ℕ))
    (ends : AllZip (AreEnds E items) items graph) (sorted : IsStrictlySortedBy item_cmp items)
    (held : (item other : Item) → Contains items item → E item other → Contains items other) where
  abbrev item_of : ℕ → Item
  item_of = item_at items

  at_of : (place : ℕ) → place < length items → IsAt items place (item_of place)
  at_of place within = slice_get-get_or items place _ within

  is_of : (place : ℕ) (item : Item) → IsAt items place item → item_of place ≡ item
  is_of place item here = get_or_from_slice_get items place item _ here

  -- ---- what leads to what
  leads_items : (place end : ℕ) (item other : Item) → IsAt items place item → IsAt items end other
      → LeadsTo (HasEdge graph) place end → LeadsTo E item other
  leads_items place end item other here there leads =
      (leads.0, Leads-items E items graph ends (λ p. p ≡ end) (λ o. o ≡ other) (λ p o at same. one_item items end o other (subst (λ q. IsAt items q o) same at) there) leads.0 place item here leads.1)

  leads_places : (place end : ℕ) (item other : Item) → IsAt items place item → IsAt items end other
      → LeadsTo E item other → LeadsTo (HasEdge graph) place end
  leads_places place end item other here there leads =
      (leads.0, Leads-places E items graph ends held (λ p. p ≡ end) (λ o. o ≡ other) (λ p o at same. one_place items_total items sorted p end other (subst (IsAt items p) same at) there) leads.0 place item here leads.1)

  leads_there : (place : ℕ) (item other : Item) → IsAt items place item → LeadsTo E item other
      → (end : ℕ) × IsAt items end other
  leads_there place item other here (zero, same) = (place, subst (IsAt items place) same here)
  leads_there place item other here (suc n, walk) =
      let next = at_Contains items walk.0 (held item walk.0 (Contains-at items place item here) walk.1) in
      leads_there next.0 walk.0 other next.1 (n, walk.2)

  leads_within : (place end : ℕ) → place < length items → LeadsTo (HasEdge graph) place end → end < length items
  leads_within place end within (zero, same) = subst (λ p. p < length items) same within
  leads_within place end within (suc n, walk) =
      let next : walk.0 < length graph = ends_within E items graph ends place walk.0 walk.1 in
      leads_within walk.0 end (subst (λ k. walk.0 < k) (length-AllZip (AreEnds E items) items graph ends) next)
      (n, walk.2)

  -- ---- items in the order of their places
  items_rise : (a b : ℕ) → a < length items → b < length items → nat_cmp a b ≡ Less
      → item_cmp (item_of a) (item_of b) ≡ Less
  items_rise a b p q less =
      sorted_at item_cmp items sorted a b (item_of a) (item_of b) (below_of a b less) (at_of a p) (at_of b q)

  items_same : (a b : ℕ) → nat_cmp a b ≡ Equal → item_cmp (item_of a) (item_of b) ≡ Equal
  items_same a b equal = let same : a ≡ b = numbers_exact.exact a b equal in subst
      (λ c. item_cmp (item_of a) (item_of c) ≡ Equal) same (tied_itself items_total (item_of a))

  module _ (P : Item → Type 0) (kept : List Bool) (short : length kept ≡ length items)
      (says : (place : ℕ) (item : Item) → IsAt items place item → IsMarked kept place ↔ P item)
      (listed : (item : Item) → P item → Contains items item) where
    kept_within : (place : ℕ) → IsMarked kept place → place < length items
    kept_within place marked = let within = slice_get_within kept place _ marked in omega (arith, within, short)

    abbrev item_rank : Rank ℕ → Rank Item
    item_rank = rank_at items

    module _ (rank : Rank ℕ) (is : IsRank nat_cmp (HasEdge graph) (IsMarked kept) rank)
        (within : rank.node < length items) where
      first_in : rank.first < length items
      first_in = leads_within rank.node rank.first within is.first.here.forth

      counted : HasCount item_cmp (λ y. P y × LeadsTo E (item_of rank.node) y) rank.count
      counted = record {
        members = map item_of is.count.members;
        in_order = sorted_mapped nat_cmp item_cmp item_of is.count.members is.count.in_order
            (λ a b p q less. items_rise a b (kept_within a ((is.count.just a).0 p).0) (kept_within b ((is.count.just b).0 q).0) less);
        just = λ y. (
          λ here.
              let found = Contains-of_map item_of is.count.members y here in
              let has = (is.count.just found.0).0 found.1 in
              let at = at_of found.0 (kept_within found.0 has.0) in
              subst (λ z. P z × LeadsTo E (item_of rank.node) z) found.2 ((says found.0 (item_of found.0) at).0 has.0, leads_items rank.node found.0 (item_of rank.node) (item_of found.0) (at_of rank.node within) at has.1),
          λ has.
              let at = at_Contains items y (listed y has.0) in
              let member = (is.count.just at.0).1 ((says at.0 y at.1).1 has.0, leads_places rank.node at.0 (item_of rank.node) y (at_of rank.node within) at.1 has.1) in
              subst (Contains (map item_of is.count.members)) (is_of at.0 y at.1)
              (Contains-to_map item_of is.count.members at.0 member),
        );
        size = length-map is.count.members item_of ∙ is.count.size;
      }

      together_items : (end : ℕ) (other : Item) → IsAt items end other → AreTogether (HasEdge graph) rank.node end
          → AreTogether E (item_of rank.node) other
      together_items end other there together = record {
        forth = leads_items rank.node end (item_of rank.node) other (at_of rank.node within) there together.forth;
        back = leads_items end rank.node other (item_of rank.node) there (at_of rank.node within) together.back;
      }

      not_earlier : (other : Item) → AreTogether E (item_of rank.node) other
          → ¬ (item_cmp other (item_of rank.first) ≡ Less)
      not_earlier other together less =
          let at = leads_there rank.node (item_of rank.node) other (at_of rank.node within) together.forth in
          let places : AreTogether (HasEdge graph) rank.node at.0 = record {
            forth = leads_places rank.node at.0 (item_of rank.node) other (at_of rank.node within) at.1 together.forth;
            back = leads_places at.0 rank.node other (item_of rank.node) at.1 (at_of rank.node within) together.back;
          } in
          elim (cases_lt at.0 rank.first) [
            | inl before ↦ is.first.least at.0 places (nat_cmp-less at.0 rank.first before)
            | inr not ↦ elim (earlier_or_same rank.first at.0 not) [
              | inl after ↦ not_below_itself items_total other (items_total.trans other (item_of rank.first) other less (sorted_at item_cmp items sorted rank.first at.0 (item_of rank.first) other after (at_of rank.first first_in) at.1))
              | inr same ↦ not_below_itself items_total other
                  (subst (λ z. item_cmp other z ≡ Less) (ap item_of same ∙ is_of at.0 other at.1) less)
            ]
          ]

      pub is_item_rank : IsRank item_cmp E P (item_rank rank)
      is_item_rank = record {
        count = counted;
        first =
            record {
              here = together_items rank.first (item_of rank.first) (at_of rank.first first_in) is.first.here;
              least = not_earlier;
            };
      }

    module _ (ranks : List (Rank ℕ)) (are : AreRanksInOrder nat_cmp (HasEdge graph) (IsMarked kept) ranks) where
      node_in : (rank : Rank ℕ) → Contains ranks rank → rank.node < length items
      node_in rank here =
          kept_within rank.node ((are.just rank.node).0 (Contains-to_map (λ (r : Rank ℕ). r.node) ranks rank here))

      rises : (a b : Rank ℕ) → Contains ranks a → Contains ranks b → rank_cmp nat_cmp a b ≡ Less
          → rank_cmp item_cmp (item_rank a) (item_rank b) ≡ Less
      rises a b p q less =
          let first_a = first_in a (are.each a p) (node_in a p) in
          let first_b = first_in b (are.each b q) (node_in b q) in
          carried (nat_cmp a.count b.count) (nat_cmp a.first b.first) (nat_cmp a.node b.node) _ _ less
          (items_rise a.first b.first first_a first_b) (items_same a.first b.first)
          (items_rise a.node b.node (node_in a p) (node_in b q))

      pub in_gate_order : AreRanksInOrder item_cmp E P (map item_rank ranks)
      in_gate_order = record {
        just = λ item. (
          λ here.
              let found = Contains-of_map (λ (r : Rank Item). r.node) (map item_rank ranks) item here in
              let rank = Contains-of_map item_rank ranks found.0 found.1 in
              let marked = (are.just rank.0.node).0 (Contains-to_map (λ (r : Rank ℕ). r.node) ranks rank.0 rank.1) in
              subst P (ap (λ (r : Rank Item). r.node) rank.2 ∙ found.2) ((says rank.0.node (item_of rank.0.node) (at_of rank.0.node (kept_within rank.0.node marked))).0 marked),
          λ has.
              let at = at_Contains items item (listed item has) in
              let rank = Contains-of_map (λ (r : Rank ℕ). r.node) ranks at.0 ((are.just at.0).1 ((says at.0 item at.1).1 has)) in
              subst (Contains (map (λ (r : Rank Item). r.node) (map item_rank ranks)))
              (ap item_of rank.2 ∙ is_of at.0 item at.1)
              (Contains-to_map (λ (r : Rank Item). r.node) (map item_rank ranks) (item_rank rank.0) (Contains-to_map item_rank ranks rank.0 rank.1)),
        );
        each = λ rank here.
            let found = Contains-of_map item_rank ranks rank here in
            subst (IsRank item_cmp E P) found.2
            (is_item_rank found.0 (are.each found.0 found.1) (node_in found.0 found.1));
        rising = sorted_mapped (rank_cmp nat_cmp) (rank_cmp item_cmp) item_rank ranks are.rising rises;
      }
