-- Items of a state that are listed, since they are to be judged again.
use Rattle.std.proofs.Common.{◌≡◌, ◌↔◌, ◌⊎◌, ℕ, Bool, List, [], ◌∷◌, ◌++◌, Contains, Some, sym, ap, ◌∙◌, subst, inl}
use Rattle.std.proofs.Common.{inr}
use Rattle.std.proofs.lemmas.List.Elements.{Contains-append_cases, Contains-append_left, Contains-append_right}
use Rattle.state_core.specs.declared.item.Item.{Item}
use Rattle.state_core.specs.State.{State}
use Rattle.state_core.specs.Items.{IsItem}
use Rattle.std.specs.Prelude.{IsTrue}
use Rattle.std.specs.Cmp.{IsTotalOrder, nat_cmp_total}
use Rattle.std.proofs.lemmas.Cmp.{on_total, then_total}
use Rattle.watch_core.specs.Namers.{namer_pair_cmp}
use Rattle.std.specs.FinMap as finite
use Rattle.lattice_core.specs.EntryLaws.{entry-get, get-entry, is_some_of, some_of}
use Rattle.lattice_core.specs.Keep.{numbers_exact}
use Rattle.lattice_core.specs.MemberLaws.{Contains-cons_cases, Contains-first, Contains-none, Contains-of_map}
use Rattle.lattice_core.specs.MemberLaws.{Contains-to_map}
use Rattle.change_core.specs.Change.{Change}
use Rattle.change_core.specs.Views.{IsKnownSet}
use Rattle.graph_core.specs.Listed.{item_of, items_in}
use Rattle.watch_core.specs.Seeds.{AddsBut, AddsItems}

abbrev pub item_at : ℕ × ℕ → Item
item_at pair = record { change = pair.0; set = pair.1 }

pub pairs_total : IsTotalOrder namer_pair_cmp
pairs_total =
    then_total (on_total (λ (pair : ℕ × ℕ). pair.0) nat_cmp_total) (on_total (λ (pair : ℕ × ℕ). pair.1) nat_cmp_total)

module _ (state : State) where
  -- nothing is added
  pub adds_none : (wanted ahead : Item → Type 0) (old : List Item)
      → ((item : Item) → IsItem state item → wanted item → ahead item) → AddsBut state wanted ahead old old
  adds_none wanted ahead old waits = record {
    keeps = λ item has. has;
    adds = λ item is want. inr (waits item is want);
    items = λ item has. inl has;
  }

  -- some items are added, which are all that are wanted
  pub adds_list : (wanted : Item → Type 0) (old added : List Item)
      → ((item : Item) → IsItem state item → wanted item → Contains added item)
      → ((item : Item) → Contains added item → IsItem state item)
      → AddsItems state wanted old (old ++ added)
  adds_list wanted old added all each = record {
    keeps = λ item has. Contains-append_left old added item has;
    adds = λ item is want. inl (Contains-append_right old added item (all item is want));
    items = λ item has. elim
        (Contains-append_cases old added item has) [ inl was ↦ inl was | inr new ↦ inr (each item new) ];
  }

  -- what is next ahead is added
  pub adds_next : (wanted ahead next rest : Item → Type 0) (old mid new : List Item)
      → ((item : Item) → ahead item → next item ⊎ rest item) → AddsBut state wanted ahead old mid
      → AddsItems state next mid new
      → AddsBut state wanted rest old new
  adds_next wanted ahead next rest old mid new cases before after = record {
    keeps = λ item has. after.keeps item (before.keeps item has);
    adds = λ item is want. elim (before.adds item is want) [
      | inl has ↦ inl (after.keeps item has)
      | inr waits ↦ elim (cases item waits) [
        | inl here ↦ elim (after.adds item is here) [ inl has ↦ inl has | inr none ↦ absurd none ]
        | inr later ↦ inr later
      ]
    ];
    items = λ item has. elim (after.items item has) [ inl was ↦ before.items item was | inr is ↦ inr is ];
  }

  -- what is listed in two steps are items of the state
  pub seeds_items : (first then : Item → Type 0) (mid new : List Item) → AddsItems state first [] mid
      → AddsItems state then mid new → (item : Item) → Contains new item → IsItem state item
  seeds_items first then mid new before after item has = elim (after.items item has) [
    | inl was ↦ elim (before.items item was) [ inl none ↦ absurd (Contains-none item none) | inr is ↦ is ]
    | inr is ↦ is
  ]

  -- an item
  pub adds_one : (item : Item) (old : List Item) → IsItem state item
      → AddsItems state (λ other. other ≡ item) old (old ++ item ∷ [])
  adds_one item old is = adds_list (λ other. other ≡ item) old (item ∷ [])
      (λ other is_other same. subst (Contains (item ∷ [])) (sym same) (Contains-first item []))
      (λ other has. elim (Contains-cons_cases item [] other has) [ inl same ↦ subst (IsItem state) same is | inr none ↦ absurd (Contains-none other none) ])

  -- the items of a change
  module _ (number : ℕ) (change : Change) (stands : finite.get state number ≡ Some change) where
    listed : (item : Item) → Contains (items_in (number, change)) item → IsItem state item
    listed item has =
        let entry = Contains-of_map (item_of number) (finite.entries change.sets) item has in
        let known : IsItem state (item_of number entry.0) =
        (change, stands, is_some_of (finite.get change.sets entry.0.0) entry.0.1 (get-entry numbers_exact change.sets entry.0.0 entry.0.1 entry.1)) in
        subst (IsItem state) entry.2 known

    all_listed : (item : Item) → IsItem state item → item.change ≡ number → Contains (items_in (number, change)) item
    all_listed item is of =
        let there : Some is.0 ≡ Some change = sym is.1 ∙ ap (finite.get state) of ∙ stands in
        let one : is.0 ≡ change = cc in
        let patch = some_of (finite.get change.sets item.set) (subst (λ (c : Change). IsKnownSet c item.set) one is.2) in
        let same : item_of number (item.set, patch.0) ≡ item = λ i. record { change = sym of i; set = item.set } in
        subst (Contains (items_in (number, change))) same (Contains-to_map (item_of number) (finite.entries change.sets) (item.set, patch.0) (entry-get numbers_exact change.sets item.set patch.0 patch.1))

  pub adds_change : (number : ℕ) (change : Change) (old : List Item) → finite.get state number ≡ Some change
      → AddsItems state (λ item. item.change ≡ number) old (old ++ items_in (number, change))
  adds_change number change old stands = adds_list (λ item. item.change ≡ number) old (items_in (number, change))
      (all_listed number change stands) (listed number change stands)

  -- an item is of the state where its change has its patch set
  pub is_there : (item : Item) (change : Change) → finite.get state item.change ≡ Some change → (test : Bool)
      → IsTrue test ↔ IsKnownSet change item.set → IsTrue test ↔ IsItem state item
  is_there item change stands test means = (
    λ is. (change, stands, means.0 is),
    λ is.
        let one : is.0 ≡ change = let there : Some is.0 ≡ Some change = sym is.1 ∙ stands in cc in
        means.1 (subst (λ (c : Change). IsKnownSet c item.set) one is.2),
  )
