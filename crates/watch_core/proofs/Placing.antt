-- Lists in order into which an element is put, or from which one is taken.
use Rattle.std.proofs.Common.{◌≡◌, ◌≤◌, ℕ, suc, true, false, List, [], ◌∷◌, ◌++◌, Contains, Some, length, map, take}
use Rattle.std.proofs.Common.{drop, sym, ap, ◌∙◌, subst, inl, inr}
use Rattle.std.specs.Prelude.{slice_get}
use Rattle.std.specs.List.{AllByRecursion, insert, remove}
use Rattle.std.specs.declared.cmp.Ordering.{Ordering}
use Rattle.std.specs.declared.cmp.Ordering.TheVariants.{Less}
use Rattle.std.specs.List.Sorted.{IsStrictlySortedBy, IsPartitionPoint}
use Rattle.std.proofs.lemmas.List.{drop-map, map-append, take-append-drop, take-map}
use Rattle.std.proofs.Math.Seq.{drop-cons}
use Rattle.std.proofs.lemmas.List.Elements.{All-from_recursion, recursion_from_All, Contains-append_left}
use Rattle.std.proofs.lemmas.List.Elements.{Contains-append_right, Contains-get_or, All-contains}
use Rattle.std.proofs.lemmas.Map.Keys.{sorted_tail}
use Rattle.std.proofs.lemmas.Option.{slice_get_within, get_or_from_slice_get}
use Rattle.watch_core.specs.Placed.{IsPlaceFor}
use Rattle.lattice_core.specs.Keep.{IsExactOrder}
use Rattle.lattice_core.specs.MemberLaws.{Contains-cons_cases, Contains-later, Contains-none, sorted_append}
use Rattle.state_core.specs.SearchLaws.{comes_before, before_point, behind_point}

-- ---- lists in order, in two parts
module _ {X : Type 0} (cmp : X → X → Ordering) where
  pub sorted_cons : (x : X) (xs : List X) → ((y : X) → Contains xs y → cmp x y ≡ Less) → IsStrictlySortedBy cmp xs
      → IsStrictlySortedBy cmp (x ∷ xs)
  unfolding IsStrictlySortedBy
  sorted_cons x xs above sorted =
      (recursion_from_All (λ y. cmp x y ≡ Less) xs (λ k d h. above _ (Contains-get_or xs k d h)), sorted)

  pub above_first : (x : X) (xs : List X) → IsStrictlySortedBy cmp (x ∷ xs) → (y : X) → Contains xs y → cmp x y ≡ Less
  unfolding IsStrictlySortedBy
  above_first x xs sorted y has =
      All-contains (λ y. cmp x y ≡ Less) xs y (All-from_recursion (λ y. cmp x y ≡ Less) xs sorted.0) has

  pub sorted_left : (xs ys : List X) → IsStrictlySortedBy cmp (xs ++ ys) → IsStrictlySortedBy cmp xs
  unfolding IsStrictlySortedBy
  sorted_left [] ys sorted = tt
  sorted_left (x ∷ xs) ys sorted =
      sorted_cons x xs (λ y has. above_first x (xs ++ ys) sorted y (Contains-append_left xs ys y has))
      (sorted_left xs ys sorted.1)

  pub sorted_right : (xs ys : List X) → IsStrictlySortedBy cmp (xs ++ ys) → IsStrictlySortedBy cmp ys
  unfolding IsStrictlySortedBy
  sorted_right [] ys sorted = sorted
  sorted_right (x ∷ xs) ys sorted = sorted_right xs ys sorted.1

  pub left_below : (xs ys : List X) → IsStrictlySortedBy cmp (xs ++ ys) → (x y : X) → Contains xs x → Contains ys y
      → cmp x y ≡ Less
  unfolding IsStrictlySortedBy
  left_below [] ys sorted x y has also = absurd (Contains-none x has)
  left_below (z ∷ xs) ys sorted x y has also = elim (Contains-cons_cases z xs x has) [
    | inl same ↦ subst (λ w. cmp w y ≡ Less) same
        (above_first z (xs ++ ys) sorted y (Contains-append_right xs ys y also))
    | inr later ↦ left_below xs ys sorted.1 x y later also
  ]

  -- one element more
  pub sorted_inserted : (xs ys : List X) (x : X) → IsStrictlySortedBy cmp (xs ++ ys)
      → ((y : X) → Contains xs y → cmp y x ≡ Less) → ((y : X) → Contains ys y → cmp x y ≡ Less)
      → IsStrictlySortedBy cmp (xs ++ x ∷ ys)
  sorted_inserted xs ys x sorted below above =
      sorted_append cmp xs (x ∷ ys) (sorted_left xs ys sorted) (sorted_cons x ys above (sorted_right xs ys sorted)) (λ y z has also. elim (Contains-cons_cases x ys z also) [
        | inl same ↦ subst (λ w. cmp y w ≡ Less) same (below y has)
        | inr later ↦ left_below xs ys sorted y z has later
      ])

  -- and one less
  pub sorted_removed : (xs ys : List X) (x : X) → IsStrictlySortedBy cmp (xs ++ x ∷ ys)
      → IsStrictlySortedBy cmp (xs ++ ys)
  sorted_removed xs ys x sorted =
      sorted_append cmp xs ys (sorted_left xs (x ∷ ys) sorted) (sorted_tail cmp x ys (sorted_right xs (x ∷ ys) sorted))
      (λ y z has also. left_below xs (x ∷ ys) sorted y z has (Contains-later x ys z also))

-- ---- a list in the parts at a place
pub parts_at : {X : Type 0} (xs : List X) (place : ℕ) (x : X) → slice_get xs place ≡ Some x
    → xs ≡ take place xs ++ x ∷ drop (suc place) xs
parts_at xs place x at =
    let within = slice_get_within xs place x at in
    sym (take-append-drop place xs) ∙ ap (λ l. take place xs ++ l)
    (drop-cons xs place x within ∙ ap (λ y. y ∷ drop (suc place) xs) (get_or_from_slice_get xs place x x at))

pub sorted_insert : {X : Type 0} (cmp : X → X → Ordering) (xs : List X) (place : ℕ) (x : X) → IsStrictlySortedBy cmp xs
    → ((y : X) → Contains (take place xs) y → cmp y x ≡ Less)
    → ((y : X) → Contains (drop place xs) y → cmp x y ≡ Less) → IsStrictlySortedBy cmp (insert xs place x)
sorted_insert cmp xs place x sorted below above =
    sorted_inserted cmp (take place xs) (drop place xs) x
    (subst (IsStrictlySortedBy cmp) (sym (take-append-drop place xs)) sorted) below above

pub sorted_remove : {X : Type 0} (cmp : X → X → Ordering) (xs : List X) (place : ℕ) (x : X) → IsStrictlySortedBy cmp xs
    → slice_get xs place ≡ Some x → IsStrictlySortedBy cmp (remove xs place)
sorted_remove cmp xs place x sorted at =
    sorted_removed cmp (take place xs) (drop (suc place) xs) x
    (subst (IsStrictlySortedBy cmp) (parts_at xs place x at) sorted)

-- ---- order by a key
module _ {X Y : Type 0} (f : X → Y) (cmp : Y → Y → Ordering) where
  abbrev pub by_key : X → X → Ordering
  by_key x y = cmp (f x) (f y)

  of_row : (y : Y) (xs : List X) → AllByRecursion (λ z. cmp y z ≡ Less) (map f xs)
      → AllByRecursion (λ x. cmp y (f x) ≡ Less) xs
  of_row y [] all = tt
  of_row y (x ∷ xs) all = (all.0, of_row y xs all.1)

  to_row : (y : Y) (xs : List X) → AllByRecursion (λ x. cmp y (f x) ≡ Less) xs
      → AllByRecursion (λ z. cmp y z ≡ Less) (map f xs)
  to_row y [] all = tt
  to_row y (x ∷ xs) all = (all.0, to_row y xs all.1)

  pub sorted_of_map : (xs : List X) → IsStrictlySortedBy cmp (map f xs) → IsStrictlySortedBy by_key xs
  unfolding IsStrictlySortedBy
  sorted_of_map [] sorted = tt
  sorted_of_map (x ∷ xs) sorted = (of_row (f x) xs sorted.0, sorted_of_map xs sorted.1)

  pub sorted_to_map : (xs : List X) → IsStrictlySortedBy by_key xs → IsStrictlySortedBy cmp (map f xs)
  unfolding IsStrictlySortedBy
  sorted_to_map [] sorted = tt
  sorted_to_map (x ∷ xs) sorted = (to_row (f x) xs sorted.0, sorted_to_map xs sorted.1)

pub map-insert : {X Y : Type 0} (f : X → Y) (xs : List X) (place : ℕ) (x : X)
    → map f (insert xs place x) ≡ insert (map f xs) place (f x)
map-insert f xs place x =
    map-append f (take place xs) (x ∷ drop place xs)
    ∙ ap (λ l. l ++ f x ∷ map f (drop place xs)) (sym (take-map f place xs))
    ∙ ap (λ l. take place (map f xs) ++ f x ∷ l) (sym (drop-map f place xs))

pub map-remove : {X Y : Type 0} (f : X → Y) (xs : List X) (place : ℕ)
    → map f (remove xs place) ≡ remove (map f xs) place
map-remove f xs place =
    map-append f (take place xs) (drop (suc place) xs)
    ∙ ap (λ l. l ++ map f (drop (suc place) xs)) (sym (take-map f place xs))
    ∙ ap (λ l. take place (map f xs) ++ l) (sym (drop-map f (suc place) xs))

-- what is put to its place
pub sorted_put : {X Y : Type 0} (f : X → Y) (cmp : Y → Y → Ordering) (xs : List X) (x : X) (place : ℕ)
    → IsStrictlySortedBy cmp (map f xs) → IsPlaceFor f cmp xs (f x) place
    → IsStrictlySortedBy cmp (map f (insert xs place x))
sorted_put f cmp xs x place sorted is =
    sorted_to_map f cmp (insert xs place x)
    (sorted_insert (by_key f cmp) xs place x (sorted_of_map f cmp xs sorted) is.before is.behind)

pub sorted_taken : {X Y : Type 0} (f : X → Y) (cmp : Y → Y → Ordering) (xs : List X) (x : X) (place : ℕ)
    → IsStrictlySortedBy cmp (map f xs) → slice_get xs place ≡ Some x
    → IsStrictlySortedBy cmp (map f (remove xs place))
sorted_taken f cmp xs x place sorted at =
    sorted_to_map f cmp (remove xs place) (sorted_remove (by_key f cmp) xs place x (sorted_of_map f cmp xs sorted) at)

-- ---- the place to which an element belongs
module _ {X Y : Type 0} (f : X → Y) {cmp : Y → Y → Ordering} (order : IsExactOrder cmp) (xs : List X)
    (sorted : IsStrictlySortedBy cmp (map f xs)) (key : Y) (point : ℕ)
    (is : IsPartitionPoint (λ x. comes_before f cmp key x ≡ true) (λ x. comes_before f cmp key x ≡ false) xs point) where
  pub place_for : point ≤ length xs → ((x : X) → Contains xs x → ¬ (f x ≡ key)) → IsPlaceFor f cmp xs key point
  place_for within none = record {
    within = within;
    before = before_point f order xs sorted key point is;
    behind = behind_point f order xs sorted key point is none;
  }
