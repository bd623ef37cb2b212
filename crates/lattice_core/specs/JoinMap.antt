-- Finite maps whose values are joined, key by key. A `FinMap` is always in the order of its keys, so two maps that
-- answer alike at each key are one map, and the laws of a map's join follow from those of its values' at each key.
use Rattle.std.specs.Prelude.{◌≡◌, ◌↔◌, T as Holds, true, false, cond, List, [], ◌∷◌, map, Option, None, Some, fold}
use Rattle.std.specs.declared.cmp.Ordering.{Ordering}
use Rattle.std.specs.declared.cmp.Ordering.TheVariants.{Less, Equal, Greater}
use Rattle.std.specs.Ordering.{is_eq, is_lt, eq_by_cmp}
use Rattle.std.specs.Cmp.{tied_itself}
use Rattle.std.specs.List.{AllByRecursion}
use Rattle.std.specs.FinMap.{FinMap, empty, get, insert, entries, from_entries, find, is_sorted, entries_sorted}
use Rattle.std.specs.FinMap.{get-insert, get-entries, get-empty, same_map}
use Rattle.std.specs.FinMap.Entries.{below_all}
use Rattle.std.proofs.Common.{refl, sym, ap, ◌∙◌, subst}
use Rattle.lattice_core.specs.Tests.{first_of_both, second_of_both, equal}
use Rattle.lattice_core.specs.Keep.{IsExactOrder}
use Rattle.lattice_core.specs.Join.{IsJoin, IsBetween, Covers, option_joined, options_join, Covers-trans, Covers-left}

-- the map of these pairs, by the shapes of the keys and of the values
abbrev pub map_of : {K V S T : Type 0} (order : S → S → Ordering) (key_shape : K → S) (value_shape : V → T)
    → List (K × V) → FinMap order T
map_of order key_shape value_shape pairs = from_entries (map (λ pair. (key_shape pair.0, value_shape pair.1)) pairs)

-- the value, joined to the one that was there
abbrev pub joined_to : {T : Type 0} → (T → T → T) → Option T → T → T
joined_to joined None value = value
joined_to joined (Some old) value = joined old value

module _ {S T : Type 0} {order : S → S → Ordering} (joined : T → T → T) where
  -- the map with the value joined to the one at the key, or added there
  abbrev pub put_joined : FinMap order T → S → T → FinMap order T
  put_joined m key value = insert m key (joined_to joined (get m key) value)

  -- the map with each of the entries joined in
  abbrev pub put_all : FinMap order T → List (S × T) → FinMap order T
  put_all m es = fold (λ n e. put_joined n e.0 e.1) m es

  -- two maps joined: `get-map_joined` says what it has at each key
  pub map_joined : FinMap order T → FinMap order T → FinMap order T
  map_joined m n = put_all m (entries n)

-- ---- what the parts of a test say
not_equal : (r : Ordering) → Holds (is_lt r) → is_eq r ≡ false
not_equal Less h = refl
not_equal Equal h = absurd h
not_equal Greater h = absurd h

option_joined-Some : {T : Type 0} (joined : T → T → T) (o : Option T) (v : T)
    → option_joined joined o (Some v) ≡ Some (joined_to joined o v)
option_joined-Some joined None v = refl
option_joined-Some joined (Some w) v = refl

option_joined-None : {T : Type 0} (joined : T → T → T) (o : Option T) → option_joined joined o None ≡ o
option_joined-None joined None = refl
option_joined-None joined (Some w) = refl

module _ {S T : Type 0} {order : S → S → Ordering} (exact_order : IsExactOrder order) where
  -- a key below all keys of a list isn't found in it
  find-below : (q : S) (es : List (S × T)) → Holds (below_all order q es) → find order q es ≡ None
  find-below q [] h = refl
  find-below q (e ∷ es) h = ap (λ t. cond t (Some e.1) (find order q es))
      (not_equal (order q e.0) (first_of_both (is_lt (order q e.0)) (below_all order q es) h)) ∙ find-below q es
      (second_of_both (is_lt (order q e.0)) (below_all order q es) h)

  pub get-put_joined : (joined : T → T → T) (m : FinMap order T) (k : S) (v : T) (q : S)
      → get (put_joined joined m k v) q ≡ cond (eq_by_cmp order q k) (Some (joined_to joined (get m k) v)) (get m q)
  get-put_joined joined m k v q = get-insert exact_order.total m k (joined_to joined (get m k) v) q

  get-put_all : (joined : T → T → T) (m : FinMap order T) (es : List (S × T)) → Holds (is_sorted order es) → (q : S)
      → get (put_all joined m es) q ≡ option_joined joined (get m q) (find order q es)
  get-put_all joined m [] h q = sym (option_joined-None joined (get m q))
  get-put_all joined m (e ∷ es) h q =
      get-put_all joined (put_joined joined m e.0 e.1) es
      (second_of_both (below_all order e.0 es) (is_sorted order es) h) q
      ∙ ap (λ o. option_joined joined o (find order q es)) (get-put_joined joined m e.0 e.1 q)
      ∙ elim (eq_by_cmp order q e.0) as (λ t. eq_by_cmp order q e.0 ≡ t → option_joined joined (cond t (Some (joined_to joined (get m e.0) e.1)) (get m q)) (find order q es) ≡ option_joined joined (get m q) (cond t (Some e.1) (find order q es))) [
        | true ↦ λ t.
            let same : q ≡ e.0 = exact_order.exact q e.0 (equal (order q e.0) t) in
            ap (option_joined joined (Some (joined_to joined (get m e.0) e.1))) (ap (λ k. find order k es) same ∙ find-below e.0 es (first_of_both (below_all order e.0 es) (is_sorted order es) h))
            ∙ sym (option_joined-Some joined (get m e.0) e.1)
            ∙ ap (λ k. option_joined joined (get m k) (Some e.1)) (sym same)
        | false ↦ λ t. refl
      ] refl

  -- at each key, what the two maps have there
  pub get-map_joined : (joined : T → T → T) (m n : FinMap order T) (q : S)
      → get (map_joined joined m n) q ≡ option_joined joined (get m q) (get n q)
  unfolding map_joined
  get-map_joined joined m n q = get-put_all joined m (entries n) (entries_sorted n) q
      ∙ ap (option_joined joined (get m q)) (sym (get-entries n q))

  pub same_at_each_key : (m n : FinMap order T) → ((q : S) → get m q ≡ get n q) → m ≡ n
  same_at_each_key m n alike = same_map exact_order.total exact_order.exact m n alike

  pub maps_join : {joined : T → T → T} → IsJoin joined → IsJoin (map_joined {order = order} joined)
  maps_join {joined = joined} laws =
      let at = options_join laws in
      record {
        commutes = λ a b. same_at_each_key _ _
            (λ q. get-map_joined joined a b q ∙ at.commutes (get a q) (get b q) ∙ sym (get-map_joined joined b a q));
        associates = λ a b c. same_at_each_key _ _ (λ q.
            get-map_joined joined (map_joined joined a b) c q
            ∙ ap (λ o. option_joined joined o (get c q)) (get-map_joined joined a b q)
            ∙ at.associates (get a q) (get b q) (get c q)
            ∙ ap (option_joined joined (get a q)) (sym (get-map_joined joined b c q))
            ∙ sym (get-map_joined joined a (map_joined joined b c) q));
        idempotent = λ a. same_at_each_key _ _ (λ q. get-map_joined joined a a q ∙ at.idempotent (get a q));
      }

  -- one map covers another where it does at each key
  pub Covers-from_each_key : (joined : T → T → T) (m n : FinMap order T)
      → ((q : S) → Covers (option_joined joined) (get m q) (get n q)) → Covers (map_joined joined) m n
  Covers-from_each_key joined m n at = same_at_each_key _ _ (λ q. get-map_joined joined m n q ∙ at q)

  pub Covers-at_key : (joined : T → T → T) (m n : FinMap order T) (q : S) → Covers (map_joined joined) m n
      → Covers (option_joined joined) (get m q) (get n q)
  Covers-at_key joined m n q covers = sym (get-map_joined joined m n q) ∙ ap (λ k. get k q) covers

  pub map_joined-empty : (joined : T → T → T) (m : FinMap order T) → map_joined joined m empty ≡ m
  map_joined-empty joined m = same_at_each_key _ _ (λ q. get-map_joined joined m empty q ∙ ap (option_joined joined (get m q)) (get-empty order q) ∙ option_joined-None joined (get m q))

  pub empty-map_joined : (joined : T → T → T) (m : FinMap order T) → map_joined joined empty m ≡ m
  empty-map_joined joined m = same_at_each_key _ _
      (λ q. get-map_joined joined empty m q ∙ ap (λ o. option_joined joined o (get m q)) (get-empty order q))

  -- to join a value in at one key is to join the map that has it alone
  pub map_joined-singleton : (joined : T → T → T) (m : FinMap order T) (k : S) (v : T)
      → map_joined joined m (insert empty k v) ≡ put_joined joined m k v
  map_joined-singleton joined m k v = same_at_each_key _ _ (λ q.
      get-map_joined joined m (insert empty k v) q
      ∙ ap (option_joined joined (get m q))
      (get-insert exact_order.total empty k v q ∙ ap (cond (eq_by_cmp order q k) (Some v)) (get-empty order q))
      ∙ elim (eq_by_cmp order q k) as (λ t. eq_by_cmp order q k ≡ t → option_joined joined (get m q) (cond t (Some v) None) ≡ cond t (Some (joined_to joined (get m k) v)) (get m q)) [
        | true ↦ λ t. option_joined-Some joined (get m q) v
            ∙ ap (λ o. Some (joined_to joined o v)) (ap (get m) (exact_order.exact q k (equal (order q k) t)))
        | false ↦ λ t. option_joined-None joined (get m q)
      ] refl
      ∙ sym (get-put_joined joined m k v q))

  -- ---- a change at one key
  insert-same : (m : FinMap order T) (k : S) (v : T) → get m k ≡ Some v → insert m k v ≡ m
  insert-same m k v here = same_at_each_key _ _ (λ q.
      get-insert exact_order.total m k v q
      ∙ elim (eq_by_cmp order q k) as (λ t. eq_by_cmp order q k ≡ t → cond t (Some v) (get m q) ≡ get m q) [
        | true ↦ λ t. sym (ap (get m) (exact_order.exact q k (equal (order q k) t)) ∙ here)
        | false ↦ λ t. refl
      ] refl)

  -- to join in what is covered changes nothing
  pub put_joined-Covers : (joined : T → T → T) (m : FinMap order T) (k : S) (v : T)
      → Covers (option_joined joined) (get m k) (Some v) → put_joined joined m k v ≡ m
  put_joined-Covers joined m k v covers = elim (get m k) as (λ o. get m k ≡ o → Covers (option_joined joined) o (Some v) → insert m k (joined_to joined o v) ≡ m) [
    | None ↦ λ e h. cc
    | Some w ↦ λ e h. insert-same m k (joined w v) (e ∙ sym h)
  ] refl covers

  Covers-insert : {joined : T → T → T} → IsJoin joined → (m : FinMap order T) (k : S) (v w : T) → Covers joined v w
      → Covers (map_joined joined) (insert m k v) (insert m k w)
  Covers-insert {joined = joined} laws m k v w covers = Covers-from_each_key joined _ _ (λ q.
      ap (λ o. option_joined joined o (get (insert m k w) q)) (get-insert exact_order.total m k v q)
      ∙ ap (option_joined joined (cond (eq_by_cmp order q k) (Some v) (get m q))) (get-insert exact_order.total m k w q)
      ∙ elim (eq_by_cmp order q k) as (λ t. option_joined joined (cond t (Some v) (get m q)) (cond t (Some w) (get m q)) ≡ cond t (Some v) (get m q)) [
        | true ↦ ap Some covers
        | false ↦ (options_join laws).idempotent (get m q)
      ]
      ∙ sym (get-insert exact_order.total m k v q))

  pub put_joined-Some : (joined : T → T → T) (m : FinMap order T) (k : S) (old v : T) → get m k ≡ Some old
      → put_joined joined m k v ≡ insert m k (joined old v)
  put_joined-Some joined m k old v here = ap (λ o. insert m k (joined_to joined o v)) here

  pub put_joined-None : (joined : T → T → T) (m : FinMap order T) (k : S) (v : T) → get m k ≡ None
      → put_joined joined m k v ≡ insert m k v
  put_joined-None joined m k v absent = ap (λ o. insert m k (joined_to joined o v)) absent

  -- a value that lies between the old one and the join leaves the map between the old one and the join
  pub put_joined-between : {joined : T → T → T} → IsJoin joined → (m : FinMap order T) (k : S) (old state v : T)
      → get m k ≡ Some old → IsBetween joined old state (joined old v)
      → IsBetween (map_joined joined) m (insert m k state) (put_joined joined m k v)
  put_joined-between {joined = joined} laws m k old state v here between = record {
    covers_low = subst (Covers (map_joined joined) (insert m k state)) (insert-same m k old here)
        (Covers-insert laws m k state old between.covers_low);
    is_covered = subst (λ n. Covers (map_joined joined) n (insert m k state))
        (sym (put_joined-Some joined m k old v here)) (Covers-insert laws m k (joined old v) state between.is_covered);
  }

  pub Covers-put_joined : {joined : T → T → T} → IsJoin joined → (m : FinMap order T) (k : S) (v : T)
      → Covers (map_joined joined) (put_joined joined m k v) m
  Covers-put_joined {joined = joined} laws m k v = subst (λ n. Covers (map_joined joined) n m)
      (map_joined-singleton joined m k v) (Covers-left (maps_join laws) m (insert empty k v))

  pub Covers-put_all : {joined : T → T → T} → IsJoin joined → (m : FinMap order T) (es : List (S × T))
      → Covers (map_joined joined) (put_all joined m es) m
  Covers-put_all laws m [] = (maps_join laws).idempotent m
  Covers-put_all {joined = joined} laws m (e ∷ es) = Covers-trans (maps_join laws)
      (put_all joined (put_joined joined m e.0 e.1) es) (put_joined joined m e.0 e.1) m
      (Covers-put_all laws (put_joined joined m e.0 e.1) es) (Covers-put_joined laws m e.0 e.1)

  -- ---- entry by entry
  find-later : (q : S) (v : T) (e : S × T) (es : List (S × T)) → Holds (is_sorted order (e ∷ es))
      → find order q es ≡ Some v → find order q (e ∷ es) ≡ Some v
  find-later q v e es h found =
      elim (eq_by_cmp order q e.0) as (λ t. eq_by_cmp order q e.0 ≡ t → cond t (Some e.1) (find order q es) ≡ Some v) [
        | true ↦ λ t.
            let same : q ≡ e.0 = exact_order.exact q e.0 (equal (order q e.0) t) in
            let missing : find order q es ≡ None = ap (λ k. find order k es) same ∙ find-below e.0 es (first_of_both (below_all order e.0 es) (is_sorted order es) h) in
            cc
        | false ↦ λ t. found
      ] refl

  find-first : (e : S × T) (es : List (S × T)) → find order e.0 (e ∷ es) ≡ Some e.1
  find-first e es = ap (λ r. cond (is_eq r) (Some e.1) (find order e.0 es)) (tied_itself exact_order.total e.0)

  each_found : (P : S → T → Type 0) (es : List (S × T)) → Holds (is_sorted order es)
      → ((q : S) (v : T) → find order q es ≡ Some v → P q v) → AllByRecursion (λ e. P e.0 e.1) es
  each_found P [] h all = tt
  each_found P (e ∷ es) h all = (all e.0 e.1 (find-first e es), each_found P es (second_of_both (below_all order e.0 es) (is_sorted order es) h) (λ q v found. all q v (find-later q v e es h found)))

  found_each : (P : S → T → Type 0) (es : List (S × T)) → AllByRecursion (λ e. P e.0 e.1) es → (q : S) (v : T)
      → find order q es ≡ Some v → P q v
  found_each P [] all q v found = cc
  found_each P (e ∷ es) all q v found =
      elim (eq_by_cmp order q e.0) as (λ t. eq_by_cmp order q e.0 ≡ t → cond t (Some e.1) (find order q es) ≡ Some v → P q v) [
        | true ↦ λ t is.
            let value : e.1 ≡ v = cc in
            subst (λ k. P k v) (sym (exact_order.exact q e.0 (equal (order q e.0) t))) (subst (P e.0) value all.0)
        | false ↦ λ t is. found_each P es all.1 q v is
      ] refl found

  -- what holds at each key of a map holds of each of its entries
  pub AllByRecursion-entries : (P : S → T → Type 0) (m : FinMap order T)
      → ((q : S) (v : T) → get m q ≡ Some v → P q v) ↔ AllByRecursion (λ e. P e.0 e.1) (entries m)
  AllByRecursion-entries P m = (
    λ all. each_found P (entries m) (entries_sorted m) (λ q v found. all q v (get-entries m q ∙ found)),
    λ all q v found. found_each P (entries m) all q v (sym (get-entries m q) ∙ found),
  )

  covers_option : (joined : T → T → T) (o : Option T) (p : Option T)
      → ((v : T) → p ≡ Some v → Covers (option_joined joined) o (Some v)) → Covers (option_joined joined) o p
  covers_option joined o None covers = option_joined-None joined o
  covers_option joined o (Some v) covers = covers v refl

  -- a map covers another where it covers each of its entries
  pub Covers-by_entries : (joined : T → T → T) (m n : FinMap order T) → Covers (map_joined joined) m n
      ↔ AllByRecursion (λ e. Covers (option_joined joined) (get m e.0) (Some e.1)) (entries n)
  Covers-by_entries joined m n =
      let each = AllByRecursion-entries (λ q v. Covers (option_joined joined) (get m q) (Some v)) n in (
        λ covers. each.0
            (λ q v found. subst (Covers (option_joined joined) (get m q)) found (Covers-at_key joined m n q covers)),
        λ all. Covers-from_each_key joined m n
            (λ q. covers_option joined (get m q) (get n q) (λ v found. each.1 all q v found)),
      )

  -- to join each entry of a map into the empty one gives the map again
  pub put_all-entries : (joined : T → T → T) (m : FinMap order T) → put_all joined empty (entries m) ≡ m
  unfolding map_joined
  put_all-entries joined m = empty-map_joined joined m

  pub map_joined-put_all : (joined : T → T → T) (m n : FinMap order T)
      → map_joined joined m n ≡ put_all joined m (entries n)
  unfolding map_joined
  map_joined-put_all joined m n = refl
