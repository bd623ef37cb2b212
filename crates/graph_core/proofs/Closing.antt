-- A search that has nothing ahead has found a part.
use Rattle.std.proofs.Common.{◌≡◌, ◌⊎◌, ◌↔◌, ℕ, Bool, true, false, cond, not, None, Some, List, [], ◌∷◌, ◌++◌, Contains}
use Rattle.std.proofs.Common.{map, length, append-nil, refl, sym, ap, ◌∙◌, subst, inl, inr}
use Rattle.std.specs.Prelude.{All, IfOk, Result, Ok, Err}
use Rattle.std.specs.BTreeSet.{BTreeSet, contains}
use Rattle.std.specs.Ordering.{is_eq, nat_cmp}
use Rattle.std.specs.declared.cmp.Ordering.{Ordering}
use Rattle.std.specs.declared.cmp.Ordering.TheVariants.{Less, Equal, Greater}
use Rattle.std.specs.Cmp.{IsTotalOrder, nat_cmp_total}
use Rattle.std.specs.List.Sorted.{IsStrictlySortedBy}
use Rattle.std.specs.List.{AllByRecursion}
use Rattle.std.proofs.lemmas.Bool.{false≢true}
use Rattle.std.proofs.lemmas.Cmp.{on_total, then_total}
use Rattle.std.proofs.lemmas.List.{nil_from_length}
use Rattle.std.proofs.lemmas.List.Elements.{All-contains, Contains-append_left, Contains-push, Contains-push_cases}
use Rattle.std.proofs.lemmas.Map.Lookups.{CmpEqualImpliesEq, exact_pairs, exact_unsigned}
use Rattle.std.proofs.lemmas.Map.Views.{btree_set_contains_iff}
use Rattle.lattice_core.specs.MemberLaws.{Contains-cons_cases, Contains-first, Contains-none, Contains-of_map}
use Rattle.lattice_core.specs.MemberLaws.{Contains-to_map}
use Rattle.gate_rules.specs.Rules.{GateRules}
use Rattle.state_core.specs.declared.item.Item.{Item}
use Rattle.state_core.specs.State.{State}
use Rattle.state_core.specs.Items.{IsCurrentItem, IsItem, item_cmp}
use Rattle.graph_core.specs.Dependencies.{IsDependency}
use Rattle.graph_core.specs.ItemGraph.{ArePart, AreTargets}
use Rattle.graph_core.specs.Closure.{AddsCurrent, AddsEnds, FindsItem, IsClosing, IsFoundItem, IsSeen, pair_cmp}

-- ---- items as pairs
abbrev pub item_at : ℕ × ℕ → Item
item_at pair = record { change = pair.0; set = pair.1 }

pairs_total : IsTotalOrder pair_cmp
pairs_total =
    then_total (on_total (λ (pair : ℕ × ℕ). pair.0) nat_cmp_total) (on_total (λ (pair : ℕ × ℕ). pair.1) nat_cmp_total)

pairs_exact : CmpEqualImpliesEq pair_cmp
pairs_exact = exact_pairs nat_cmp nat_cmp exact_unsigned exact_unsigned

above_items : (pair : ℕ × ℕ) (pairs : List (ℕ × ℕ)) → AllByRecursion (λ other. pair_cmp pair other ≡ Less) pairs
    → AllByRecursion (λ item. item_cmp (item_at pair) item ≡ Less) (map item_at pairs)
above_items pair [] h = tt
above_items pair (other ∷ others) h = (h.0, above_items pair others h.1)

pub items_sorted : (pairs : List (ℕ × ℕ)) → IsStrictlySortedBy pair_cmp pairs
    → IsStrictlySortedBy item_cmp (map item_at pairs)
unfolding IsStrictlySortedBy
items_sorted [] sorted = tt
items_sorted (pair ∷ pairs) sorted = (above_items pair pairs sorted.0, items_sorted pairs sorted.1)

pub found_items : (found : BTreeSet (ℕ × ℕ)) (item : Item) → Contains (map item_at found.keys) item ↔ IsFoundItem found item
found_items found item = (
  λ listed.
      let from = Contains-of_map item_at found.keys item listed in
      (btree_set_contains_iff pairs_total pairs_exact found (item.change, item.set)).1
      (subst (Contains found.keys) (ap (λ (i : Item). (i.change, i.set)) from.2) from.1),
  λ is. Contains-to_map item_at found.keys (item.change, item.set)
      ((btree_set_contains_iff pairs_total pairs_exact found (item.change, item.set)).0 is),
)

-- what is listed so far is all, where nothing is left
pub all_listed : (items : List Item) (left keys : List (ℕ × ℕ)) → left ≡ []
    → items ++ map item_at left ≡ map item_at keys → items ≡ map item_at keys
all_listed items left keys none is =
    sym (append-nil items) ∙ subst (λ l. items ++ map item_at l ≡ map item_at keys) none is

-- ---- one item more
equal_of : (r : Ordering) → is_eq r ≡ true → r ≡ Equal
equal_of Equal e = refl
equal_of Less e = absurd (false≢true e)
equal_of Greater e = absurd (false≢true e)

hit_or_old : (hit old new : Bool) → new ≡ cond hit true old → new ≡ true → (hit ≡ true) ⊎ (old ≡ true)
hit_or_old true old new is has = inl refl
hit_or_old false old new is has = inr (sym is ∙ has)

grown : (hit old new : Bool) → new ≡ cond hit true old → old ≡ true → new ≡ true
grown true old new is has = is
grown false old new is has = is ∙ has

same_pair : (a b : Item) → is_eq (pair_cmp (a.change, a.set) (b.change, b.set)) ≡ true → a ≡ b
same_pair a b e = ap item_at
    (pairs_exact (a.change, a.set) (b.change, b.set) (equal_of (pair_cmp (a.change, a.set) (b.change, b.set)) e))

pub found_more : (item : Item) (old new : BTreeSet (ℕ × ℕ)) → ((q : ℕ × ℕ) → contains pair_cmp new q ≡ cond (is_eq (pair_cmp (item.change, item.set) q)) true (contains pair_cmp old q))
    → contains pair_cmp new (item.change, item.set) ≡ true → (other : Item)
    → IsFoundItem new other ↔ (IsFoundItem old other ⊎ (other ≡ item))
found_more item old new updates there other = (
  λ has. elim (hit_or_old (is_eq (pair_cmp (item.change, item.set) (other.change, other.set))) (contains pair_cmp old (other.change, other.set)) (contains pair_cmp new (other.change, other.set))
      (updates (other.change, other.set)) has) [ inl hit ↦ inr (sym (same_pair item other hit)) | inr was ↦ inl was ],
  λ is. elim is [
    | inl was ↦ grown (is_eq (pair_cmp (item.change, item.set) (other.change, other.set)))
        (contains pair_cmp old (other.change, other.set)) (contains pair_cmp new (other.change, other.set))
        (updates (other.change, other.set)) was
    | inr same ↦ subst (IsFoundItem new) (sym same) there
  ],
)

pub found_before : (added has : Bool) → added ≡ not has → added ≡ false → has ≡ true
found_before added true is none = refl
found_before added false is none = absurd (false≢true (sym none ∙ is))

-- ---- what is put ahead
none_is_some : {X : Type 0} (x : X) → None ≡ Some x → ⊥
none_is_some x e = cc

one_some : {X : Type 0} (x y : X) → Some x ≡ Some y → x ≡ y
one_some x y e = cc

module _ (state : State) where
  pub adds_none : (ahead : List Item) → AddsCurrent state [] ahead ahead
  adds_none ahead = record {
    keeps = λ item has. has;
    adds = λ item none current. absurd (Contains-none item.change none);
    items = λ item has. inl has;
  }

  pub adds_unknown : (number : ℕ) (ahead : List Item)
      → ((item : Item) → item.change ≡ number → IsCurrentItem state item → None ≡ Some item)
      → AddsCurrent state (number ∷ []) ahead ahead
  adds_unknown number ahead unknown = record {
    keeps = λ item has. has;
    adds = λ item here current. elim (Contains-cons_cases number [] item.change here) [
      | inl same ↦ absurd (none_is_some item (unknown item (sym same) current))
      | inr none ↦ absurd (Contains-none item.change none)
    ];
    items = λ item has. inl has;
  }

  pub adds_one : (number : ℕ) (found : Item) (old new : List Item) → IsItem state found
      → ((item : Item) → item.change ≡ number → IsCurrentItem state item → Some found ≡ Some item)
      → new ≡ old ++ found ∷ [] → AddsCurrent state (number ∷ []) old new
  adds_one number found old new is only pushed = record {
    keeps = λ item has. subst (λ l. Contains l item) (sym pushed) (Contains-append_left old (found ∷ []) item has);
    adds = λ item here current. elim (Contains-cons_cases number [] item.change here) [
      | inl same ↦
          let one = one_some found item (only item (sym same) current) in
          subst (λ l. Contains l item) (sym pushed) (subst (Contains (old ++ found ∷ [])) one (Contains-push old found))
      | inr none ↦ absurd (Contains-none item.change none)
    ];
    items = λ item has. elim (Contains-push_cases old found item (subst (λ l. Contains l item) pushed has)) [
      | inl earlier ↦ inl earlier
      | inr same ↦ inr (subst (IsItem state) same is)
    ];
  }

  pub adds_more : (numbers : List ℕ) (number : ℕ) (old between new : List Item) → AddsCurrent state numbers old between
      → AddsCurrent state (number ∷ []) between new
      → AddsCurrent state (numbers ++ number ∷ []) old new
  adds_more numbers number old between new first next = record {
    keeps = λ item has. next.keeps item (first.keeps item has);
    adds = λ item here current. elim (Contains-push_cases numbers number item.change here) [
      | inl earlier ↦ next.keeps item (first.adds item earlier current)
      | inr same ↦ next.adds item (subst (Contains (number ∷ [])) same (Contains-first number [])) current
    ];
    items = λ item has. elim (next.items item has) [ inl before ↦ first.items item before | inr is ↦ inr is ];
  }

  pub adds_ends : (gate : GateRules) (item : Item) (targets : List ℕ) (old new : List Item)
      → AreTargets gate state item targets → AddsCurrent state targets old new → AddsEnds gate state item old new
  adds_ends gate item targets old new are added = record {
    keeps = added.keeps;
    adds = λ other edge. added.adds other ((are.each other.change).1 edge.0) edge.1;
    items = added.items;
  }

-- ---- the search
module _ (gate : GateRules) (state : State) (first : List Item) where
  pub closing_first : (found : BTreeSet (ℕ × ℕ)) → found.keys ≡ [] → All (IsItem state) first
      → IsClosing gate state first found first
  closing_first found none are = record {
    items = λ item seen. elim seen [ inl is ↦ absurd (none_found item is) | inr has ↦ All-contains (IsItem state) first item are has ];
    has = λ item has. inr has;
    held = λ item other is edge. absurd (none_found item is);
  } where
    none_found : (item : Item) → IsFoundItem found item → ⊥
    none_found item is = Contains-none item
        (subst (λ (keys : List (ℕ × ℕ)). Contains (map item_at keys) item) none ((found_items found item).1 is))

  pub next_is_item : (found : BTreeSet (ℕ × ℕ)) (ahead before : List Item) (item : Item) → ahead ≡ before ++ item ∷ []
      → IsClosing gate state first found ahead → IsItem state item
  next_is_item found ahead before item popped is =
      is.items item (inr (subst (λ l. Contains l item) (sym popped) (Contains-push before item)))

  module _ (old new : BTreeSet (ℕ × ℕ)) (before now : List Item) (item : Item)
      (finds : FindsItem gate state item old before new now) where
    stays_ahead : (other : Item) → Contains before other → Contains now other
    stays_ahead other has = elim finds.ahead [ inl was ↦ subst (λ l. Contains l other) (sym was.1) has | inr adds ↦ adds.keeps other has ]

    seen_on : (other : Item) → IsSeen old (before ++ item ∷ []) other → IsSeen new now other
    seen_on other (inl was) = inl ((finds.found other).1 (inl was))
    seen_on other (inr ahead) = elim (Contains-push_cases before item other ahead) [
      | inl earlier ↦ inr (stays_ahead other earlier)
      | inr same ↦ inl ((finds.found other).1 (inr (sym same)))
    ]

    module _ (is : IsClosing gate state first old (before ++ item ∷ [])) where
      items_ahead : (other : Item) → Contains before other → IsItem state other
      items_ahead other has = is.items other (inr (Contains-append_left before (item ∷ []) other has))

      items_on : (other : Item) → IsSeen new now other → IsItem state other
      items_on other (inl has) = elim ((finds.found other).0 has) [
        | inl was ↦ is.items other (inl was)
        | inr same ↦ subst (IsItem state) (sym same) (is.items item (inr (Contains-push before item)))
      ]
      items_on other (inr ahead) = elim finds.ahead [
        | inl was ↦ items_ahead other (subst (λ l. Contains l other) was.1 ahead)
        | inr adds ↦ elim (adds.items other ahead) [ inl earlier ↦ items_ahead other earlier | inr its ↦ its ]
      ]

      held_at : (other : Item) → IsDependency gate state item other → IsSeen new now other
      held_at other edge = elim finds.ahead [ inl was ↦ seen_on other (is.held item other was.0 edge) | inr adds ↦ inr (adds.adds other edge) ]

      pub closing_on : IsClosing gate state first new now
      closing_on = record {
        items = items_on;
        has = λ other given. seen_on other (is.has other given);
        held = λ from other has edge. elim ((finds.found from).0 has) [
          | inl was ↦ seen_on other (is.held from other was edge)
          | inr same ↦ held_at other (subst (λ i. IsDependency gate state i other) same edge)
        ];
      }

  -- at the end
  module _ (found : BTreeSet (ℕ × ℕ)) (is : IsClosing gate state first found []) (part : List Item)
      (each : (item : Item) → Contains part item ↔ IsFoundItem found item) where
    seen_is_found : (item : Item) → IsSeen found [] item → Contains part item
    seen_is_found item (inl has) = (each item).1 has
    seen_is_found item (inr none) = absurd (Contains-none item none)

    pub closed_has : (item : Item) → Contains first item → Contains part item
    closed_has item given = seen_is_found item (is.has item given)

    pub closed_is_part : IsStrictlySortedBy item_cmp part → ArePart gate state part
    closed_is_part sorted = record {
      in_order = sorted;
      each = λ item has. is.items item (inl ((each item).0 has));
      held = λ item other has edge. seen_is_found other (is.held item other ((each item).0 has) edge);
    }

  -- and so is what a call hands on
  module _ (found : BTreeSet (ℕ × ℕ)) (ahead : List Item) (is : IsClosing gate state first found ahead)
      (none : length ahead ≡ 0) where
    closed : IsClosing gate state first found []
    closed = subst (IsClosing gate state first found) (nil_from_length ahead none) is

    pub handed_is_part : {X E : Type 0} (items_in : X → List Item) (result : Result X E)
        → IfOk result (λ x. IsStrictlySortedBy item_cmp (items_in x))
        → IfOk result (λ x. (item : Item) → Contains (items_in x) item ↔ IsFoundItem found item)
        → IfOk result (λ x. ArePart gate state (items_in x))
    handed_is_part items_in (Ok x) sorted each = closed_is_part found closed (items_in x) each sorted
    handed_is_part items_in (Err e) sorted each = tt

    pub handed_has : {X E : Type 0} (items_in : X → List Item) (result : Result X E)
        → IfOk result (λ x. (item : Item) → Contains (items_in x) item ↔ IsFoundItem found item)
        → IfOk result (λ x. (item : Item) → Contains first item → Contains (items_in x) item)
    handed_has items_in (Ok x) each = closed_has found closed (items_in x) each
    handed_has items_in (Err e) each = tt
