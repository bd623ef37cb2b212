-- Lists in which what was found of some items takes the place of what was kept of them.
use Rattle.std.proofs.Common.{◌≡◌, ◌↔◌, ◌⊎◌, ◌+◌, ◌<◌, ℕ, suc, Bool, true, false, List, [], ◌∷◌, ◌++◌, Contains, Some}
use Rattle.std.proofs.Common.{get_or, length, map, set, take, drop, refl, sym, ap, ◌∙◌, subst, inl, inr}
use Rattle.std.specs.Prelude.{slice_get, option_map}
use Rattle.std.specs.List.{insert, remove}
use Rattle.std.specs.List.Sorted.{IsStrictlySortedBy}
use Rattle.std.specs.declared.cmp.Ordering.{Ordering}
use Rattle.std.specs.declared.cmp.Ordering.TheVariants.{Less, Equal, Greater}
use Rattle.std.specs.Ordering.{nat_cmp, ordering_then}
use Rattle.std.specs.Cmp.{IsTotalOrder, tied_itself}
use Rattle.std.proofs.lemmas.Cmp.{on_total}
use Rattle.std.proofs.lemmas.Map.Lookups.{exact_pairs, exact_unsigned}
use Rattle.walk_core.specs.Ranks.{Rank, rank_cmp}
use Rattle.walk_core.specs.RankLaws.{ranks_total}
use Rattle.std.proofs.lemmas.List.{set_split, take-append-drop, take_more}
use Rattle.std.proofs.lemmas.Bool.{false≢true}
use Rattle.std.proofs.lemmas.List.Elements.{Contains-append_left, Contains-append_right, Contains-append_cases}
use Rattle.std.proofs.lemmas.List.Elements.{Contains-get_or, Contains-push, Contains-push_cases}
use Rattle.std.proofs.lemmas.Option.{slice_get-map, slice_get_within}
use Rattle.lattice_core.specs.Keep.{IsExactOrder}
use Rattle.lattice_core.specs.MemberLaws.{Contains-cons_cases, Contains-first, Contains-later, Contains-none}
use Rattle.lattice_core.specs.PlaceLaws.{Contains-at, at_Contains, not_below_itself, one_item, one_place}
use Rattle.state_core.specs.declared.item.Item.{Item}
use Rattle.state_core.specs.Items.{item_cmp}
use Rattle.state_core.specs.ItemLaws.{items_exact, items_order, items_total}
use Rattle.watch_core.specs.Placed.{HasNew, IsFoundAgain, IsOneEach, ShareNoItem, left_item}
use Rattle.ready_core.specs.ItemRanks.{to_rank}
use Rattle.watch_core.proofs.Placing.{above_first, by_key, left_below, parts_at, sorted_right}

-- ---- two items
rank_exact : (a b : Rank Item) → rank_cmp item_cmp a b ≡ Equal → a ≡ b
rank_exact a b e =
    ap (λ (p : ℕ × (Item × Item)). record { count = p.0; first = p.1.0; node = p.1.1 })
    (exact_pairs nat_cmp (λ (x y : Item × Item). ordering_then (item_cmp x.0 y.0) (item_cmp x.1 y.1)) exact_unsigned (exact_pairs item_cmp item_cmp items_exact items_exact) (a.count, (a.first, a.node)) (b.count, (b.first, b.node)) e)

pub ranks_order : IsExactOrder (rank_cmp item_cmp)
ranks_order = record { total = ranks_total items_order (λ a b. a ≡ b) (λ a. a ≡ a); exact = rank_exact }

not_tied : (a b : Item) (r : Ordering) → item_cmp a b ≡ r → ¬ (r ≡ Equal) → ¬ (a ≡ b)
not_tied a b r is other same = other (sym is ∙ ap (item_cmp a) (sym same) ∙ tied_itself items_total a)

one_or_two : (a b : Item) (r : Ordering) → item_cmp a b ≡ r → (a ≡ b) ⊎ ¬ (a ≡ b)
one_or_two a b Equal is = inl (items_exact a b is)
one_or_two a b Less is = inr (not_tied a b Less is (λ e. cc))
one_or_two a b Greater is = inr (not_tied a b Greater is (λ e. cc))

pub same_or_not : (a b : Item) → (a ≡ b) ⊎ ¬ (a ≡ b)
same_or_not a b = one_or_two a b (item_cmp a b) refl

pub by_rank_total : IsTotalOrder (by_key to_rank (rank_cmp item_cmp))
by_rank_total = on_total to_rank ranks_order.total

pub by_item_total : IsTotalOrder (by_key left_item item_cmp)
by_item_total = on_total left_item items_total

pub has_or_not : (items : List Item) (item : Item) → Contains items item ⊎ ¬ Contains items item
has_or_not [] item = inr (Contains-none item)
has_or_not (first ∷ items) item = elim (same_or_not first item) [
  | inl same ↦ inl (subst (Contains (first ∷ items)) same (Contains-first first items))
  | inr other ↦ elim (has_or_not items item) [
    | inl later ↦ inl (Contains-later first items item later)
    | inr none ↦ inr
        (λ has. elim (Contains-cons_cases first items item has) [ inl same ↦ other same | inr later ↦ none later ])
  ]
]

module _ {X : Type 0} (of : X → Item) where
  -- ---- one item, in the parts of a list
  exchanged_in : (item : Item) (left was now right : List X) → ((x : X) → Contains left x → ¬ (of x ≡ item))
      → ((x : X) → Contains was x → of x ≡ item)
      → ((x : X) → Contains now x → of x ≡ item) → ((x : X) → Contains right x → ¬ (of x ≡ item))
      → HasNew of (λ other. other ≡ item) now (left ++ (was ++ right)) (left ++ (now ++ right))
  exchanged_in item left was now right in_left in_was in_now in_right = record {
    each = λ x. (
      λ has. elim (Contains-append_cases left (now ++ right) x has) [
        | inl here ↦ inr (in_left x here, Contains-append_left left (was ++ right) x here)
        | inr later ↦ elim (Contains-append_cases now right x later) [
          | inl here ↦ inl (in_now x here, here)
          | inr here ↦ inr
              (in_right x here, Contains-append_right left (was ++ right) x (Contains-append_right was right x here))
        ]
      ],
      λ found_or_kept. elim found_or_kept [
        | inl found ↦ Contains-append_right left (now ++ right) x (Contains-append_left now right x found.1)
        | inr kept ↦ elim (Contains-append_cases left (was ++ right) x kept.1) [
          | inl here ↦ Contains-append_left left (now ++ right) x here
          | inr later ↦ elim (Contains-append_cases was right x later) [
            | inl here ↦ absurd (kept.0 (in_was x here))
            | inr here ↦ Contains-append_right left (now ++ right) x (Contains-append_right now right x here)
          ]
        ]
      ],
    );
  }

  just_one : (x : X) (item : Item) → of x ≡ item → (y : X) → Contains (x ∷ []) y → of y ≡ item
  just_one x item is y has = elim (Contains-cons_cases x [] y has) [
    | inl same ↦ subst (λ z. of z ≡ item) same is
    | inr later ↦ absurd (Contains-none y later)
  ]

  nothing : (item : Item) (x : X) → Contains [] x → of x ≡ item
  nothing item x has = absurd (Contains-none x has)

  -- a list into which an element is put
  pub exchanged_insert : (xs : List X) (place : ℕ) (x : X) (item : Item) → of x ≡ item
      → ((y : X) → Contains xs y → ¬ (of y ≡ item))
      → HasNew of (λ other. other ≡ item) (x ∷ []) xs (insert xs place x)
  exchanged_insert xs place x item is none =
      subst (λ l. HasNew of (λ other. other ≡ item) (x ∷ []) l (insert xs place x)) (take-append-drop place xs)
      (exchanged_in item (take place xs) [] (x ∷ []) (drop place xs)
      (λ y has. none y (subst (λ l. Contains l y) (take-append-drop place xs) (Contains-append_left (take place xs) (drop place xs) y has)))
      (nothing item) (just_one x item is)
      (λ y has. none y (subst (λ l. Contains l y) (take-append-drop place xs) (Contains-append_right (take place xs) (drop place xs) y has))))

  -- a list in which one element has an item: it is taken out, or another takes its place
  module _ {cmp : X → X → Ordering} (total : IsTotalOrder cmp) (xs : List X) (sorted : IsStrictlySortedBy cmp xs)
      (one_each : IsOneEach of xs)
      (place : ℕ) (x : X) (at : slice_get xs place ≡ Some x) (item : Item) (is : of x ≡ item) where
    in_parts : IsStrictlySortedBy cmp (take place xs ++ x ∷ drop (suc place) xs)
    in_parts = subst (IsStrictlySortedBy cmp) (parts_at xs place x at) sorted

    there_too : (y : X) → Contains (take place xs ++ x ∷ drop (suc place) xs) y → of y ≡ item → y ≡ x
    there_too y has same = one_each.one y x (subst (λ l. Contains l y) (sym (parts_at xs place x at)) has)
        (Contains-at xs place x at) (same ∙ sym is)

    none_left : (y : X) → Contains (take place xs) y → ¬ (of y ≡ item)
    none_left y has same =
        let one = there_too y (Contains-append_left (take place xs) (x ∷ drop (suc place) xs) y has) same in
        let below = left_below cmp (take place xs) (x ∷ drop (suc place) xs) in_parts y x has (Contains-first x (drop (suc place) xs)) in
        not_below_itself total x (subst (λ z. cmp z x ≡ Less) one below)

    none_right : (y : X) → Contains (drop (suc place) xs) y → ¬ (of y ≡ item)
    none_right y has same =
        let one = there_too y (Contains-append_right (take place xs) (x ∷ drop (suc place) xs) y (Contains-later x (drop (suc place) xs) y has)) same in
        let above = above_first cmp x (drop (suc place) xs) (sorted_right cmp (take place xs) (x ∷ drop (suc place) xs) in_parts) y has in
        not_below_itself total x (subst (λ z. cmp x z ≡ Less) one above)

    pub exchanged_remove : HasNew of (λ other. other ≡ item) [] xs (remove xs place)
    exchanged_remove =
        subst (λ l. HasNew of (λ other. other ≡ item) [] l (remove xs place)) (sym (parts_at xs place x at))
        (exchanged_in item (take place xs) (x ∷ []) [] (drop (suc place) xs) none_left (just_one x item is) (nothing item) none_right)

    pub exchanged_set : (new : X) → of new ≡ item → HasNew of (λ other. other ≡ item) (new ∷ []) xs (set xs place new)
    exchanged_set new new_is =
        subst (λ l. HasNew of (λ other. other ≡ item) (new ∷ []) xs l)
        (sym (set_split xs place new (slice_get_within xs place x at)))
        (subst (λ l. HasNew of (λ other. other ≡ item) (new ∷ []) l (take place xs ++ new ∷ drop (suc place) xs)) (sym (parts_at xs place x at))
        (exchanged_in item (take place xs) (x ∷ []) (new ∷ []) (drop (suc place) xs) none_left (just_one x item is) (just_one new item new_is) none_right))

  -- ---- one for each item
  pub one_each_none : IsOneEach of []
  one_each_none = record { one = λ x y has also same. absurd (Contains-none x has) }

  pub one_each_alone : (x : X) → IsOneEach of (x ∷ [])
  one_each_alone x = record {
    one = λ y z has also same. elim (Contains-cons_cases x [] y has) [
      | inr later ↦ absurd (Contains-none y later)
      | inl is_y ↦ elim
          (Contains-cons_cases x [] z also) [ inr later ↦ absurd (Contains-none z later) | inl is_z ↦ sym is_y ∙ is_z ]
    ];
  }

  pub one_each_sorted : (xs : List X) → IsStrictlySortedBy item_cmp (map of xs) → IsOneEach of xs
  one_each_sorted xs sorted = record {
    one = λ x y has also same.
        let i = at_Contains xs x has in
        let j = at_Contains xs y also in
        let at_i : slice_get (map of xs) i.0 ≡ Some (of y) = slice_get-map of xs i.0 ∙ ap (option_map of) i.1 ∙ ap Some same in
        let at_j : slice_get (map of xs) j.0 ≡ Some (of y) = slice_get-map of xs j.0 ∙ ap (option_map of) j.1 in
        let place = one_place items_total (map of xs) sorted i.0 j.0 (of y) at_i at_j in
        one_item xs j.0 x y (subst (λ k. slice_get xs k ≡ Some x) place i.1) j.1;
  }

  pub one_each_on : (P : Item → Type 0) (found kept new : List X) → HasNew of P found kept new → IsOneEach of found
      → IsOneEach of kept → IsOneEach of new
  one_each_on P found kept new are one_found one_kept = record {
    one = λ x y has also same. elim ((are.each x).0 has) [
      | inl x_found ↦ elim ((are.each y).0 also) [
        | inl y_found ↦ one_found.one x y x_found.1 y_found.1 same
        | inr y_kept ↦ absurd (y_kept.0 (subst P same x_found.0))
      ]
      | inr x_kept ↦ elim ((are.each y).0 also) [
        | inl y_found ↦ absurd (x_kept.0 (subst P (sym same) y_found.0))
        | inr y_kept ↦ one_kept.one x y x_kept.1 y_kept.1 same
      ]
    ];
  }

  -- ---- one after the other
  -- the same items again
  pub HasNew-again : (P : Item → Type 0) (first next xs ys zs : List X) → HasNew of P first xs ys
      → HasNew of P next ys zs → HasNew of P next xs zs
  HasNew-again P first next xs ys zs one two = record {
    each = λ x. (
      λ has. elim ((two.each x).0 has) [
        | inl found ↦ inl found
        | inr kept ↦ elim ((one.each x).0 kept.1) [ inl again ↦ absurd (kept.0 again.0) | inr still ↦ inr still ]
      ],
      λ found_or_kept. elim found_or_kept [
        | inl found ↦ (two.each x).1 (inl found)
        | inr kept ↦ (two.each x).1 (inr (kept.0, (one.each x).1 (inr kept)))
      ],
    );
  }

  -- where there is none of these items
  pub HasNew-none : (P : Item → Type 0) (found xs : List X) → ((x : X) → Contains found x → ¬ P (of x))
      → ((x : X) → Contains xs x → ¬ P (of x)) → HasNew of P found xs xs
  HasNew-none P found xs not_found not_kept = record {
    each = λ x. (λ has. inr (not_kept x has, has), λ found_or_kept. elim found_or_kept [ inl is ↦ absurd (not_found x is.1 is.0) | inr kept ↦ kept.1 ]);
  }

  -- the same items
  pub HasNew-same : (P Q : Item → Type 0) (found xs ys : List X) → ((item : Item) → P item ↔ Q item)
      → HasNew of P found xs ys → HasNew of Q found xs ys
  HasNew-same P Q found xs ys same are = record {
    each = λ x. (
      λ has. elim ((are.each x).0 has) [
        | inl is ↦ inl ((same (of x)).0 is.0, is.1)
        | inr kept ↦ inr (λ q. kept.0 ((same (of x)).1 q), kept.1)
      ],
      λ found_or_kept. elim found_or_kept [
        | inl is ↦ (are.each x).1 (inl ((same (of x)).1 is.0, is.1))
        | inr kept ↦ (are.each x).1 (inr (λ p. kept.0 ((same (of x)).0 p), kept.1))
      ],
    );
  }

  -- one item more
  pub HasNew-more : (P Q : Item → Type 0) (item : Item) (found one xs ys zs : List X)
      → ((other : Item) → Q other → P other ⊎ (other ≡ item)) → ((other : Item) → P other → Q other) → Q item
      → ((x : X) → of x ≡ item → Contains found x ↔ Contains one x) → HasNew of P found xs ys
      → HasNew of (λ other. other ≡ item) one ys zs → HasNew of Q found xs zs
  HasNew-more P Q item found one xs ys zs cases stays here just before after = record {
    each = λ x. (
      λ has. elim ((after.each x).0 has) [
        | inl is ↦ inl (subst Q (sym is.0) here, (just x is.0).1 is.1)
        | inr other ↦ elim ((before.each x).0 other.1) [
          | inl is ↦ inl (stays (of x) is.0, is.1)
          | inr kept ↦ inr (λ q. elim (cases (of x) q) [ inl p ↦ kept.0 p | inr same ↦ other.0 same ], kept.1)
        ]
      ],
      λ found_or_kept. elim found_or_kept [
        | inl is ↦ elim (same_or_not (of x) item) [
          | inl same ↦ (after.each x).1 (inl (same, (just x same).0 is.1))
          | inr other ↦ elim (cases (of x) is.0) [
            | inl p ↦ (after.each x).1 (inr (other, (before.each x).1 (inl (p, is.1))))
            | inr same ↦ absurd (other same)
          ]
        ]
        | inr kept ↦
            let other : ¬ (of x ≡ item) = λ same. kept.0 (subst Q (sym same) here) in
            (after.each x).1 (inr (other, (before.each x).1 (inr (λ p. kept.0 (stays (of x) p), kept.1))))
      ],
    );
  }

  -- what was found of some items, and nothing of others
  pub HasNew-then_none : (P Q : Item → Type 0) (found xs ys zs : List X) → ((x : X) → Contains found x → ¬ Q (of x))
      → HasNew of P found xs ys → HasNew of Q [] ys zs → HasNew of (λ item. P item ⊎ Q item) found xs zs
  HasNew-then_none P Q found xs ys zs none one two = record {
    each = λ x. (
      λ has. elim ((two.each x).0 has) [
        | inl is ↦ absurd (Contains-none x is.1)
        | inr other ↦ elim ((one.each x).0 other.1) [
          | inl is ↦ inl (inl is.0, is.1)
          | inr kept ↦ inr (λ either. elim either [ inl p ↦ kept.0 p | inr q ↦ other.0 q ], kept.1)
        ]
      ],
      λ found_or_kept. elim found_or_kept [
        | inl is ↦ elim is.0 [
          | inl p ↦ (two.each x).1 (inr (none x is.1, (one.each x).1 (inl (p, is.1))))
          | inr q ↦ absurd (none x is.1 q)
        ]
        | inr kept ↦ (two.each x).1 (inr (λ q. kept.0 (inr q), (one.each x).1 (inr (λ p. kept.0 (inl p), kept.1))))
      ],
    );
  }

  pub HasNew-after_none : (P Q : Item → Type 0) (found xs ys zs : List X) → ((x : X) → Contains found x → ¬ P (of x))
      → HasNew of P [] xs ys → HasNew of Q found ys zs → HasNew of (λ item. P item ⊎ Q item) found xs zs
  HasNew-after_none P Q found xs ys zs none one two = record {
    each = λ x. (
      λ has. elim ((two.each x).0 has) [
        | inl is ↦ inl (inr is.0, is.1)
        | inr other ↦ elim ((one.each x).0 other.1) [
          | inl is ↦ absurd (Contains-none x is.1)
          | inr kept ↦ inr (λ either. elim either [ inl p ↦ kept.0 p | inr q ↦ other.0 q ], kept.1)
        ]
      ],
      λ found_or_kept. elim found_or_kept [
        | inl is ↦ elim is.0 [
          | inl p ↦ absurd (none x is.1 p)
          | inr q ↦ (two.each x).1 (inl (q, is.1))
        ]
        | inr kept ↦ (two.each x).1 (inr (λ q. kept.0 (inr q), (one.each x).1 (inr (λ p. kept.0 (inl p), kept.1))))
      ],
    );
  }

-- ---- two lists
pub apart_on : {X Y : Type 0} (of : X → Item) (by : Y → Item) (P : Item → Type 0) (found kept new : List X)
    (found_too kept_too new_too : List Y) → HasNew of P found kept new
    → HasNew by P found_too kept_too new_too → ShareNoItem of by found found_too → ShareNoItem of by kept kept_too
    → ShareNoItem of by new new_too
apart_on of by P found kept new found_too kept_too new_too xs ys apart_found apart_kept = record {
  none = λ x y has also same. elim ((xs.each x).0 has) [
    | inl x_found ↦ elim ((ys.each y).0 also) [
      | inl y_found ↦ apart_found.none x y x_found.1 y_found.1 same
      | inr y_kept ↦ y_kept.0 (subst P same x_found.0)
    ]
    | inr x_kept ↦ elim ((ys.each y).0 also) [
      | inl y_found ↦ x_kept.0 (subst P (sym same) y_found.0)
      | inr y_kept ↦ apart_kept.none x y x_kept.1 y_kept.1 same
    ]
  ];
}

-- ---- one item of what was found after the other
module _ {X : Type 0} (of : X → Item) (again : Item → Bool) (found : List X) where
  pub none_yet : (item : Item) → ¬ IsFoundAgain of again (take 0 found) item
  none_yet item is = Contains-none is.one is.there

  module _ (k : ℕ) (d : X) (less : k < length found) where
    abbrev x : X
    x = get_or found k d

    taken : take (k + 1) found ≡ take k found ++ x ∷ []
    taken = take_more found k d less

    pub here_too : Contains found x
    here_too = Contains-get_or found k d less

    pub more_cases : (item : Item) → IsFoundAgain of again (take (k + 1) found) item
        → IsFoundAgain of again (take k found) item ⊎ (item ≡ of x)
    more_cases item is =
        elim (Contains-push_cases (take k found) x is.one (subst (λ l. Contains l is.one) taken is.there)) [
          | inl earlier ↦ inl (record { again = is.again; one = is.one; there = earlier; is = is.is })
          | inr same ↦ inr (sym is.is ∙ ap of (sym same))
        ]

    pub more_stays : (item : Item) → IsFoundAgain of again (take k found) item
        → IsFoundAgain of again (take (k + 1) found) item
    more_stays item is = record {
      again = is.again;
      one = is.one;
      there = subst (λ l. Contains l is.one) (sym taken) (Contains-append_left (take k found) (x ∷ []) is.one is.there);
      is = is.is;
    }

    pub more_here : again (of x) ≡ true → IsFoundAgain of again (take (k + 1) found) (of x)
    more_here judged = record {
      again = judged;
      one = x;
      there = subst (λ l. Contains l x) (sym taken) (Contains-push (take k found) x);
      is = refl;
    }

    -- an item that isn't judged again changes nothing
    pub passed : again (of x) ≡ false → (item : Item)
        → IsFoundAgain of again (take k found) item ↔ IsFoundAgain of again (take (k + 1) found) item
    passed judged item = (
      more_stays item,
      λ is. elim (more_cases item is) [
        | inl earlier ↦ earlier
        | inr same ↦ absurd (false≢true (sym judged ∙ ap again (sym same) ∙ is.again))
      ],
    )

    -- one that is takes what was found of it, and nothing of another kind
    pub just_found : IsOneEach of found → (y : X) → of y ≡ of x → Contains found y ↔ Contains (x ∷ []) y
    just_found one_each y same = (
      λ has. subst (Contains (x ∷ [])) (one_each.one x y here_too has (sym same)) (Contains-first x []),
      λ has. elim (Contains-cons_cases x [] y has) [ inl is ↦ subst (Contains found) is here_too | inr later ↦ absurd (Contains-none y later) ],
    )

    module _ (xs ys zs : List X) where
      pub found_more : IsOneEach of found → again (of x) ≡ true
          → HasNew of (IsFoundAgain of again (take k found)) found xs ys
          → HasNew of (λ item. item ≡ of x) (x ∷ []) ys zs
          → HasNew of (IsFoundAgain of again (take (k + 1) found)) found xs zs
      found_more one_each judged before after =
          HasNew-more of (IsFoundAgain of again (take k found)) (IsFoundAgain of again (take (k + 1) found))
          (of x) found (x ∷ []) xs ys zs more_cases more_stays (more_here judged)
          (just_found one_each) before after

    pub none_more : {Y : Type 0} (by : Y → Item) (xs ys zs : List Y) → again (of x) ≡ true
        → HasNew by (IsFoundAgain of again (take k found)) [] xs ys → HasNew by (λ item. item ≡ of x) [] ys zs
        → HasNew by (IsFoundAgain of again (take (k + 1) found)) [] xs zs
    none_more by xs ys zs judged before after =
        HasNew-more by (IsFoundAgain of again (take k found)) (IsFoundAgain of again (take (k + 1) found))
        (of x) [] [] xs ys zs more_cases more_stays (more_here judged)
        (λ y same. (λ has. has, λ has. has)) before after
