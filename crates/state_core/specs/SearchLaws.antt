-- What a binary search by a key finds in a list sorted by that key.
use Rattle.std.proofs.Common.{◌≡◌, ◌≤◌, ◌<◌, ◌+◌, ℕ, Bool, true, false, List, Contains, Some, length, map, take, drop}
use Rattle.std.proofs.Common.{get_or, refl, sym, ap, ◌∙◌, subst, arith, inl, inr}
use Rattle.std.specs.Prelude.{slice_get, option_map}
use Rattle.std.specs.declared.cmp.Ordering.{Ordering}
use Rattle.std.specs.declared.cmp.Ordering.TheVariants.{Less, Equal, Greater}
use Rattle.std.specs.Ordering.{is_lt, ordering_reverse}
use Rattle.std.specs.List.Sorted.{IsStrictlySortedBy, IsPartitionedBy, IsPartitionPoint}
use Rattle.std.proofs.lemmas.Bool.{false≢true}
use Rattle.std.proofs.lemmas.List.{length-take, get_or-take, get_or-drop, length-drop}
use Rattle.std.proofs.lemmas.List.Elements.{Contains-get_or}
use Rattle.std.proofs.lemmas.Option.{slice_get-map, slice_get_within, get_or_from_slice_get, slice_get-get_or}
use Rattle.lattice_core.specs.Keep.{IsExactOrder}
use Rattle.lattice_core.specs.PlaceLaws.{at_Contains, at_below, earlier_or_same, not_below_itself, one_item, sorted_at}

less_of : (r : Ordering) → is_lt r ≡ true → r ≡ Less
less_of Less e = refl
less_of Equal e = absurd (false≢true e)
less_of Greater e = absurd (false≢true e)

of_less : (r : Ordering) → r ≡ Less → is_lt r ≡ true
of_less r e = subst (λ o. is_lt o ≡ true) (sym e) refl

same_place : (place point : ℕ) → ¬ (place < point) → ¬ (point < place) → place ≡ point
same_place place point p q = omega (arith, p, q)

-- whether an element comes before a key
abbrev pub comes_before : {X Y : Type 0} → (X → Y) → (Y → Y → Ordering) → Y → X → Bool
comes_before f cmp key x = is_lt (cmp (f x) key)

above_key : {Y : Type 0} {cmp : Y → Y → Ordering} → IsExactOrder cmp → (key y : Y) (r : Ordering) → cmp y key ≡ r
    → is_lt r ≡ false → ¬ (y ≡ key) → cmp key y ≡ Less
above_key order key y Less e fails other = absurd (false≢true (sym fails))
above_key order key y Equal e fails other = absurd (other (order.exact y key e))
above_key order key y Greater e fails other = order.total.antisymm key y ∙ ap ordering_reverse e

module _ {X Y : Type 0} (f : X → Y) {cmp : Y → Y → Ordering} (order : IsExactOrder cmp) (xs : List X)
    (sorted : IsStrictlySortedBy cmp (map f xs)) (key : Y) where
  at_key : (place : ℕ) (x : X) → slice_get xs place ≡ Some x → slice_get (map f xs) place ≡ Some (f x)
  at_key place x here = slice_get-map f xs place ∙ ap (option_map f) here

  below_at : (i j : ℕ) (x y : X) → i ≤ j → slice_get xs i ≡ Some x → slice_get xs j ≡ Some y → cmp (f y) key ≡ Less
      → cmp (f x) key ≡ Less
  below_at i j x y h at_i at_j less = elim (earlier_or_same i j h) [
    | inl earlier ↦ order.total.trans (f x) (f y) key
        (sorted_at cmp (map f xs) sorted i j (f x) (f y) earlier (at_key i x at_i) (at_key j y at_j)) less
    | inr same ↦ subst (λ z. cmp (f z) key ≡ Less)
        (one_item xs j y x at_j (subst (λ k. slice_get xs k ≡ Some x) same at_i)) less
  ]

  pub partitioned : IsPartitionedBy (comes_before f cmp key) xs
  partitioned i j d h less yes_j =
      of_less _ (below_at i j _ _ h (slice_get-get_or xs i d (omega (arith, h, less))) (slice_get-get_or xs j d less) (less_of _ yes_j))

  module _ (point : ℕ) (is : IsPartitionPoint (λ x. comes_before f cmp key x ≡ true) (λ x. comes_before f cmp key x ≡ false) xs point) where
    passes : (place : ℕ) (x : X) → slice_get xs place ≡ Some x → place < point → comes_before f cmp key x ≡ true
    passes place x here less = subst (λ y. comes_before f cmp key y ≡ true) (get_or_from_slice_get xs place x x here)
        (is.0 place x (omega arith) less)

    fails : (place : ℕ) (x : X) → slice_get xs place ≡ Some x → point ≤ place → comes_before f cmp key x ≡ false
    fails place x here h = subst (λ y. comes_before f cmp key y ≡ false) (get_or_from_slice_get xs place x x here)
        (is.1 place x h (slice_get_within xs place x here))

    -- an element with the key is at the point
    stands_there : (place : ℕ) (x : X) → slice_get xs place ≡ Some x → f x ≡ key → place ≡ point
    stands_there place x here of = same_place place point
        (λ less. not_below_itself order.total key (subst (λ y. cmp y key ≡ Less) of (less_of _ (passes place x here less))))
        (λ less.
        let next = at_below xs point (omega (arith, less, slice_get_within xs place x here)) in
        let below = sorted_at cmp (map f xs) sorted point place (f next.0) (f x) less (at_key point next.0 next.1) (at_key place x here) in
        false≢true (sym (fails point next.0 next.1 (omega arith)) ∙ of_less _ (subst (λ y. cmp (f next.0) y ≡ Less) of below)))

    pub at_point : (x : X) → Contains xs x → f x ≡ key → slice_get xs point ≡ Some x
    at_point x has of =
        let there = at_Contains xs x has in
        subst (λ k. slice_get xs k ≡ Some x) (stands_there there.0 x there.1 of) there.1

    pub before_point : (x : X) → Contains (take point xs) x → cmp (f x) key ≡ Less
    before_point x has =
        let within = has.1 in
        let less : has.0 < point = omega (arith, within, length-take point xs) in
        let read : get_or xs has.0 x ≡ x = sym (get_or-take point xs has.0 x less) ∙ has.2 in
        subst (λ y. cmp (f y) key ≡ Less) read (less_of _ (is.0 has.0 x (omega arith) less))

    -- where no element has the key
    pub behind_point : ((x : X) → Contains xs x → ¬ (f x ≡ key)) → (x : X) → Contains (drop point xs) x
        → cmp key (f x) ≡ Less
    behind_point none x has =
        let within = has.1 in
        let less : point + has.0 < length xs = omega (arith, within, length-drop point xs) in
        let read : get_or xs (point + has.0) x ≡ x = sym (get_or-drop point xs has.0 x) ∙ has.2 in
        let there : Contains xs x = subst (Contains xs) read (Contains-get_or xs (point + has.0) x less) in
        above_key order key (f x) (cmp (f x) key) refl
        (subst (λ y. comes_before f cmp key y ≡ false) read (is.1 (point + has.0) x (omega arith) less))
        (none x there)
