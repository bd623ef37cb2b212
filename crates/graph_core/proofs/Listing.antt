-- The items listed change by change are just the items of the state, in order.
use Rattle.std.proofs.Common.{◌≡◌, ℕ, T, List, [], ◌∷◌, ◌++◌, map, flat_map, Contains, append-nil, sym, ap, ◌∙◌, subst}
use Rattle.std.proofs.Common.{inl, inr}
use Rattle.std.specs.declared.cmp.Ordering.TheVariants.{Less}
use Rattle.std.specs.Ordering.{nat_cmp, ordering_then, is_lt}
use Rattle.std.specs.Cmp.{nat_cmp_total, tied_itself}
use Rattle.std.specs.List.Sorted.{IsStrictlySortedBy}
use Rattle.std.specs.FinMap.{get, entries, is_sorted, entries_sorted}
use Rattle.std.specs.FinMap.Entries.{below_all}
use Rattle.std.proofs.lemmas.List.Elements.{recursion_from_All, Contains-get_or}
use Rattle.review_ops.specs.Timestamp.{Timestamp}
use Rattle.change_core.specs.Slots.{Patch}
use Rattle.change_core.specs.Change.{Change}
use Rattle.state_core.specs.Items.{IsItem}
use Rattle.state_core.specs.declared.item.Item.{Item}
use Rattle.state_core.specs.State.{State}
use Rattle.state_core.specs.Items.{item_cmp}
use Rattle.graph_core.specs.ItemGraph.{AreItems}
use Rattle.lattice_core.specs.MemberLaws.{Contains-cons_cases, Contains-none, Contains-of_map, Contains-to_map}
use Rattle.lattice_core.specs.MemberLaws.{Contains-of_flat_map, Contains-to_flat_map, sorted_append}
use Rattle.lattice_core.specs.Tests.{first_of_both, second_of_both, less}
use Rattle.lattice_core.specs.Keep.{numbers_exact}
use Rattle.lattice_core.specs.EntryLaws.{get-entry, entry-get, some_of, is_some_of}
use Rattle.graph_core.specs.Listed.{item_of, items_in, all_items}

-- ---- lists in order
above : {X : Type 0} (key : ℕ) (es : List (ℕ × X)) → T (below_all nat_cmp key es) → (e : ℕ × X) → Contains es e
    → nat_cmp key e.0 ≡ Less
above key [] h e c = absurd (Contains-none e c)
above key (f ∷ fs) h e c = elim (Contains-cons_cases f fs e c) [
  | inl same ↦ subst (λ g. nat_cmp key g.0 ≡ Less) same
      (less (nat_cmp key f.0) (first_of_both (is_lt (nat_cmp key f.0)) (below_all nat_cmp key fs) h))
  | inr later ↦ above key fs (second_of_both (is_lt (nat_cmp key f.0)) (below_all nat_cmp key fs) h) e later
]

-- patch sets of one change come by their numbers
same_change : (number a b : ℕ) → nat_cmp a b ≡ Less
    → item_cmp (record { change = number; set = a }) (record { change = number; set = b }) ≡ Less
same_change number a b h = ap (λ r. ordering_then r (nat_cmp a b)) (tied_itself nat_cmp_total number) ∙ h

lower_change : (x y : Item) → nat_cmp x.change y.change ≡ Less → item_cmp x y ≡ Less
lower_change x y h = ap (λ r. ordering_then r (nat_cmp x.set y.set)) h

sets_in_order : (number : ℕ) (sets : List (ℕ × (Timestamp × Patch))) → T (is_sorted nat_cmp sets)
    → IsStrictlySortedBy item_cmp (map (item_of number) sets)
unfolding IsStrictlySortedBy
sets_in_order number [] sorted = tt
sets_in_order number (e ∷ es) sorted = (
  recursion_from_All (λ y. item_cmp (item_of number e) y ≡ Less) (map (item_of number) es) (λ k d h.
      let found = Contains-of_map (item_of number) es _ (Contains-get_or (map (item_of number) es) k d h) in
      subst (λ y. item_cmp (item_of number e) y ≡ Less) found.2 (same_change number e.0 found.0.0 (above e.0 es (first_of_both (below_all nat_cmp e.0 es) (is_sorted nat_cmp es) sorted) found.0 found.1))),
  sets_in_order number es (second_of_both (below_all nat_cmp e.0 es) (is_sorted nat_cmp es) sorted),
)

change_of_listed : (e : ℕ × Change) (item : Item) → Contains (items_in e) item → e.0 ≡ item.change
change_of_listed e item c = let found = Contains-of_map (item_of e.0) (entries e.1.sets) item c in ap
    (λ (i : Item). i.change) found.2

changes_in_order : (es : List (ℕ × Change)) → T (is_sorted nat_cmp es)
    → IsStrictlySortedBy item_cmp (flat_map items_in es)
unfolding IsStrictlySortedBy
changes_in_order [] sorted = tt
changes_in_order (e ∷ es) sorted = sorted_append item_cmp (items_in e) (flat_map items_in es)
    (sets_in_order e.0 (entries e.1.sets) (entries_sorted e.1.sets))
    (changes_in_order es (second_of_both (below_all nat_cmp e.0 es) (is_sorted nat_cmp es) sorted))
    (λ x y in_e in_es.
    let found = Contains-of_flat_map items_in es y in_es in
    let lower = above e.0 es (first_of_both (below_all nat_cmp e.0 es) (is_sorted nat_cmp es) sorted) found.0 found.1 in
    lower_change x y (subst (λ n. nat_cmp n y.change ≡ Less) (change_of_listed e x in_e) (subst (λ n. nat_cmp e.0 n ≡ Less) (change_of_listed found.0 y found.2) lower)))

-- ---- the items are those of the state
listed_is_item : (state : State) (item : Item) → Contains (all_items state) item → IsItem state item
listed_is_item state item c =
    let e = Contains-of_flat_map items_in (entries state) item c in
    let s = Contains-of_map (item_of e.0.0) (entries e.0.1.sets) item e.2 in
    let known : IsItem state (item_of e.0.0 s.0) = (e.0.1, get-entry numbers_exact state e.0.0 e.0.1 e.1, is_some_of (get e.0.1.sets s.0.0) s.0.1 (get-entry numbers_exact e.0.1.sets s.0.0 s.0.1 s.1)) in
    subst (IsItem state) s.2 known

item_is_listed : (state : State) (item : Item) → IsItem state item → Contains (all_items state) item
item_is_listed state item is =
    let patch = some_of (get is.0.sets item.set) is.2 in
    Contains-to_flat_map items_in (entries state) (item.change, is.0) item
    (entry-get numbers_exact state item.change is.0 is.1)
    (Contains-to_map (item_of item.change) (entries is.0.sets) (item.set, patch.0) (entry-get numbers_exact is.0.sets item.set patch.0 patch.1))

pub AreItems-all_items : (state : State) → AreItems state (all_items state)
AreItems-all_items state = record {
  in_order = changes_in_order (entries state) (entries_sorted state);
  each = λ item. (listed_is_item state item, item_is_listed state item);
}

-- where no change is left, all items are listed
pub listed_all : (items : List Item) (rest : List (ℕ × Change)) (state : State) → rest ≡ []
    → items ++ flat_map items_in rest ≡ all_items state → AreItems state items
listed_all items rest state none so_far =
    subst (AreItems state) (sym (sym (append-nil items) ∙ ap (λ l. items ++ flat_map items_in l) (sym none) ∙ so_far))
    (AreItems-all_items state)
