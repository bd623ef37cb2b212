-- The pairs of a `BTreeMap`, and the finite map of their shapes.
use Rattle.std.specs.Prelude.{◌≡◌, Bool, true, false, cond, not, ◌&&◌, T as Holds, List, [], ◌∷◌, map, length, Option}
use Rattle.std.specs.Prelude.{None, Some, IsSome, is_some, ◌↔◌}
use Rattle.std.specs.declared.cmp.Ordering.{Ordering}
use Rattle.std.specs.declared.cmp.Ordering.TheVariants.{Less, Equal, Greater}
use Rattle.std.specs.Ordering.{is_eq, is_le, is_lt, eq_by_cmp, match_ordering, ordering_reverse}
use Rattle.std.specs.Cmp.{tied_itself}
use Rattle.std.specs.Option.{option_map}
use Rattle.std.specs.List.{AllByRecursion}
use Rattle.std.specs.List.Sorted.{IsStrictlySortedBy}
use Rattle.std.specs.Map.{lookup, set_value, keys_of}
use Rattle.std.specs.BTreeMap.{is_at, insert_entry}
use Rattle.std.specs.BTreeMap.Range.{is_from_start, is_past_end, range_contains, entries_between}
use Rattle.std.specs.Range.Bound.{bound_map}
use Rattle.std.specs.declared.ops.Bound.{Bound}
use Rattle.std.specs.declared.ops.Bound.TheVariants.{Included, Excluded, Unbounded}
use Rattle.std.specs.FinMap.{empty, get, insert, get-empty, entries, len, from_sorted, find, is_sorted, get-insert}
use Rattle.std.specs.FinMap.{get-from_entries, get-from_sorted, entries-from_sorted, len-entries}
use Rattle.std.specs.FinMap.Entries.{below_all, put, by_order, find-put}
use Rattle.std.proofs.Common.{refl, sym, ap, ap₂, ◌∙◌, subst, arith}
use Rattle.std.proofs.lemmas.List.{length-map}
use Rattle.std.proofs.lemmas.Map.Keys.{sorted_head, sorted_tail}
use Rattle.lattice_core.specs.Tests.{equal}
use Rattle.lattice_core.specs.Keep.{IsExactOrder}
use Rattle.lattice_core.specs.JoinMap.{map_of, same_at_each_key}

both : (a b : Bool) → Holds a → Holds b → Holds (a && b)
both true b h k = k
both false b h k = h

is_eq-turned : (r s : Ordering) → r ≡ ordering_reverse s → is_eq r ≡ is_eq s
is_eq-turned r Less e = ap is_eq e
is_eq-turned r Equal e = ap is_eq e
is_eq-turned r Greater e = ap is_eq e

is_some-option_map : {A B : Type 0} (f : A → B) (o : Option A) → is_some (option_map f o) ≡ is_some o
is_some-option_map f None = refl
is_some-option_map f (Some x) = refl

-- a test that is repeated
shadowed : {A : Type 0} (b : Bool) (x y z : A) → cond b x z ≡ cond b x (cond b y z)
shadowed true x y z = refl
shadowed false x y z = refl

-- two tests of which at most one passes
swapped : {A : Type 0} (a b : Bool) (x y z : A) → (a ≡ true → b ≡ false) → cond a x (cond b y z) ≡ cond b y (cond a x z)
swapped true b x y z apart = ap (λ t. cond t y x) (sym (apart refl)) ∙ refl
swapped false b x y z apart = refl

module _ {K V S T : Type 0} {order : S → S → Ordering} (exact_order : IsExactOrder order) (key_shape : K → S)
    (value_shape : V → T) where
  find-shapes : (query : K → Ordering) (q : S) → ((k : K) → query k ≡ order q (key_shape k)) → (es : List (K × V))
      → find order q (map (λ x. (key_shape x.0, value_shape x.1)) es) ≡ option_map value_shape (lookup (is_at query) es)
  find-shapes query q asks [] = refl
  find-shapes query q asks (e ∷ es) =
      ap (λ r. cond (is_eq r) (Some (value_shape e.1)) (find order q (map (λ x. (key_shape x.0, value_shape x.1)) es)))
      (sym (asks e.0))
      ∙ elim (is_eq (query e.0)) as (λ t. cond t (Some (value_shape e.1)) (find order q (map (λ x. (key_shape x.0, value_shape x.1)) es)) ≡ option_map value_shape (cond t (Some e.1) (lookup (is_at query) es))) [
        | true ↦ refl
        | false ↦ find-shapes query q asks es
      ]

  -- a look-up answers what the map has
  pub get-map_of_query : (query : K → Ordering) (q : S) → ((k : K) → query k ≡ order q (key_shape k))
      → (es : List (K × V))
      → get (map_of order key_shape value_shape es) q ≡ option_map value_shape (lookup (is_at query) es)
  get-map_of_query query q asks es =
      get-from_entries exact_order.total (map (λ x. (key_shape x.0, value_shape x.1)) es) q
      ∙ find-shapes query q asks es

module _ {K V S T : Type 0} {cmp : K → K → Ordering} {order : S → S → Ordering} (exact_order : IsExactOrder order)
    (key_shape : K → S) (value_shape : V → T) (compares : (a b : K) → cmp a b ≡ order (key_shape a) (key_shape b)) where
  abbrev shapes : List (K × V) → List (S × T)
  shapes es = map (λ e. (key_shape e.0, value_shape e.1)) es

  pub get-map_of : (q : K) (es : List (K × V))
      → get (map_of order key_shape value_shape es) (key_shape q) ≡ option_map value_shape (lookup (is_at (cmp q)) es)
  get-map_of q es = get-map_of_query exact_order key_shape value_shape (cmp q) (key_shape q) (compares q) es

  below_shapes : (k : K) (es : List (K × V)) → AllByRecursion (λ y. cmp k y ≡ Less) (keys_of es)
      → Holds (below_all order (key_shape k) (shapes es))
  below_shapes k [] h = tt
  below_shapes k (e ∷ es) h = both (is_lt (order (key_shape k) (key_shape e.0)))
      (below_all order (key_shape k) (shapes es)) (subst (λ r. Holds (is_lt r)) (sym h.0 ∙ compares k e.0) tt)
      (below_shapes k es h.1)

  sorted_shapes : (es : List (K × V)) → IsStrictlySortedBy cmp (keys_of es) → Holds (is_sorted order (shapes es))
  sorted_shapes [] h = tt
  sorted_shapes (e ∷ es) h = both (below_all order (key_shape e.0) (shapes es)) (is_sorted order (shapes es))
      (below_shapes e.0 es (sorted_head cmp e.0 (keys_of es) h)) (sorted_shapes es (sorted_tail cmp e.0 (keys_of es) h))

  map_of-sorted : (es : List (K × V)) → IsStrictlySortedBy cmp (keys_of es)
      → map_of order key_shape value_shape es ≡ from_sorted (shapes es)
  map_of-sorted es h = same_at_each_key exact_order _ _ (λ q. get-from_entries exact_order.total (shapes es) q ∙ sym (get-from_sorted order (shapes es) q (sorted_shapes es h)))

  -- pairs in order are the map's entries
  pub entries-map_of : (es : List (K × V)) → IsStrictlySortedBy cmp (keys_of es)
      → entries (map_of order key_shape value_shape es) ≡ shapes es
  entries-map_of es h = ap entries (map_of-sorted es h) ∙ entries-from_sorted order (shapes es) (sorted_shapes es h)

  -- ---- the pairs in a range are those whose shapes are between the shapes of its bounds
  start_shapes : (start : Bound K) (k : K)
      → is_from_start cmp start k ≡ is_from_start order (bound_map key_shape start) (key_shape k)
  start_shapes (Included a) k = ap is_le (compares a k)
  start_shapes (Excluded a) k = ap is_lt (compares a k)
  start_shapes Unbounded k = refl

  end_shapes : (end : Bound K) (k : K)
      → is_past_end cmp end k ≡ is_past_end order (bound_map key_shape end) (key_shape k)
  end_shapes (Included a) k = ap is_lt (compares a k)
  end_shapes (Excluded a) k = ap is_le (compares a k)
  end_shapes Unbounded k = refl

  pub shapes-entries_between : (start end : Bound K) (es : List (K × V)) → shapes
      (entries_between cmp start end es) ≡ entries_between order (bound_map key_shape start) (bound_map key_shape end)
      (shapes es)
  shapes-entries_between start end [] = refl
  shapes-entries_between start end (e ∷ es) =
      let within = ap₂ (λ from past. from && not past) (start_shapes start e.0) (end_shapes end e.0) in
      let rest = shapes-entries_between start end es in
      let there = entries_between order (bound_map key_shape start) (bound_map key_shape end) (shapes es) in
      elim (range_contains cmp start end e.0) as (λ t. shapes (cond t (e ∷ entries_between cmp start end es) (entries_between cmp start end es)) ≡ cond t ((key_shape e.0, value_shape e.1) ∷ there) there) [
        | true ↦ ap (λ l. (key_shape e.0, value_shape e.1) ∷ l) rest
        | false ↦ rest
      ]
      ∙ ap (λ t. cond t ((key_shape e.0, value_shape e.1) ∷ there) there) within

  pub len-map_of : (es : List (K × V)) → IsStrictlySortedBy cmp (keys_of es)
      → len (map_of order key_shape value_shape es) ≡ length es
  len-map_of es h =
      len-entries _ ∙ ap length (entries-map_of es h) ∙ length-map es (λ e. (key_shape e.0, value_shape e.1))

  shapes-insert_entry : (k : K) (v : V) (es : List (K × V))
      → shapes (insert_entry cmp es k v) ≡ put order (key_shape k) (value_shape v) (shapes es)
  shapes-insert_entry k v [] = refl
  shapes-insert_entry k v (e ∷ es) =
      elim (cmp k e.0) as (λ r. shapes (match_ordering r ((k, v) ∷ e ∷ es) ((e.0, v) ∷ es) (e ∷ insert_entry cmp es k v)) ≡ by_order r ((key_shape k, value_shape v) ∷ shapes (e ∷ es)) ((key_shape e.0, value_shape v) ∷ shapes es) ((key_shape e.0, value_shape e.1) ∷ put order (key_shape k) (value_shape v) (shapes es))) [
        | Less ↦ refl
        | Equal ↦ refl
        | Greater ↦ ap (λ rest. (key_shape e.0, value_shape e.1) ∷ rest) (shapes-insert_entry k v es)
      ]
      ∙ ap (λ r. by_order r ((key_shape k, value_shape v) ∷ shapes (e ∷ es)) ((key_shape e.0, value_shape v) ∷ shapes es) ((key_shape e.0, value_shape e.1) ∷ put order (key_shape k) (value_shape v) (shapes es))) (compares k e.0)

  -- to insert a pair is to insert its shapes
  pub map_of-insert_entry : (k : K) (v : V) (es : List (K × V)) → map_of order key_shape value_shape
      (insert_entry cmp es k v) ≡ insert (map_of order key_shape value_shape es) (key_shape k) (value_shape v)
  map_of-insert_entry k v es = same_at_each_key exact_order _ _ (λ q.
      get-from_entries exact_order.total (shapes (insert_entry cmp es k v)) q
      ∙ ap (find order q) (shapes-insert_entry k v es)
      ∙ find-put order exact_order.total q (key_shape k) (value_shape v) (shapes es)
      ∙ ap (cond (eq_by_cmp order q (key_shape k)) (Some (value_shape v)))
      (sym (get-from_entries exact_order.total (shapes es) q))
      ∙ sym (get-insert exact_order.total (map_of order key_shape value_shape es) (key_shape k) (value_shape v) q))

  find-set_value : (k : K) (v : V) (q : S) (es : List (K × V)) → IsSome (lookup (is_at (cmp k)) es) → find order q
      (shapes (set_value (is_at (cmp k)) es v)) ≡ cond (eq_by_cmp order q (key_shape k)) (Some (value_shape v))
      (find order q (shapes es))
  find-set_value k v q [] h = cc
  find-set_value k v q (e ∷ es) h =
      elim (is_eq (cmp k e.0)) as (λ t. is_eq (cmp k e.0) ≡ t → IsSome (cond t (Some e.1) (lookup (is_at (cmp k)) es)) → find order q (shapes (cond t ((e.0, v) ∷ es) (e ∷ set_value (is_at (cmp k)) es v))) ≡ cond (eq_by_cmp order q (key_shape k)) (Some (value_shape v)) (find order q (shapes (e ∷ es)))) [
        | true ↦ λ t _. shadowed (eq_by_cmp order q (key_shape e.0)) (Some (value_shape v)) (Some (value_shape e.1))
            (find order q (shapes es))
            ∙ ap (λ x. cond (eq_by_cmp order q x) (Some (value_shape v)) (find order q (shapes (e ∷ es))))
            (sym (exact_order.exact (key_shape k) (key_shape e.0) (sym (compares k e.0) ∙ equal (cmp k e.0) t)))
        | false ↦ λ t is. ap (cond (eq_by_cmp order q (key_shape e.0)) (Some (value_shape e.1)))
            (find-set_value k v q es is)
            ∙ swapped (eq_by_cmp order q (key_shape e.0)) (eq_by_cmp order q (key_shape k)) (Some (value_shape e.1))
            (Some (value_shape v)) (find order q (shapes es)) (λ at_e.
            ap (λ x. is_eq (order x (key_shape k)))
            (exact_order.exact q (key_shape e.0) (equal (order q (key_shape e.0)) at_e))
            ∙ is_eq-turned (order (key_shape e.0) (key_shape k)) (order (key_shape k) (key_shape e.0))
            (exact_order.total.antisymm (key_shape e.0) (key_shape k))
            ∙ ap is_eq (sym (compares k e.0)) ∙ t)
      ] refl h

  -- to write a value at a key that is there is to insert its shape
  pub map_of-set_value : (k : K) (v : V) (es : List (K × V)) → IsSome
      (lookup (is_at (cmp k)) es) → map_of order key_shape value_shape (set_value (is_at (cmp k)) es v) ≡ insert
      (map_of order key_shape value_shape es) (key_shape k) (value_shape v)
  map_of-set_value k v es h = same_at_each_key exact_order _ _ (λ q.
      get-from_entries exact_order.total (shapes (set_value (is_at (cmp k)) es v)) q
      ∙ find-set_value k v q es h
      ∙ ap (cond (eq_by_cmp order q (key_shape k)) (Some (value_shape v)))
      (sym (get-from_entries exact_order.total (shapes es) q))
      ∙ sym (get-insert exact_order.total (map_of order key_shape value_shape es) (key_shape k) (value_shape v) q))

  pub contains-map_of : (q : K) (es : List (K × V))
      → is_some (lookup (is_at (cmp q)) es) ≡ is_some (get (map_of order key_shape value_shape es) (key_shape q))
  contains-map_of q es = sym (ap is_some (get-map_of q es) ∙ is_some-option_map value_shape (lookup (is_at (cmp q)) es))

  none_left : (es : List (K × V)) → map_of order key_shape value_shape es ≡ empty → length es ≡ 0
  none_left [] e = refl
  none_left (e ∷ es) is_empty =
      let found : get (map_of order key_shape value_shape (e ∷ es)) (key_shape e.0) ≡ Some (value_shape e.1) =
      get-from_entries exact_order.total (shapes (e ∷ es)) (key_shape e.0) ∙ ap (λ r. cond (is_eq r) (Some (value_shape e.1)) (find order (key_shape e.0) (shapes es))) (tied_itself exact_order.total (key_shape e.0)) in
      let missing : get (map_of order key_shape value_shape (e ∷ es)) (key_shape e.0) ≡ None = ap (λ m. get m (key_shape e.0)) is_empty ∙ get-empty order (key_shape e.0) in
      cc

  -- a map is empty where it has no pair
  pub empty-map_of : (es : List (K × V)) → (length es ≡ 0) ↔ (map_of order key_shape value_shape es ≡ empty)
  empty-map_of [] = (λ _. refl, λ _. refl)
  empty-map_of (e ∷ es) = (λ none. absurd (omega arith), none_left (e ∷ es))
