-- Pairs in the order of their keys: where a search by a key ends, and what is there.
use Rattle.std.proofs.Common.{◌≡◌, ◌<◌, ℕ, zero, suc, Bool, true, false, cond, List, [], ◌∷◌, Option, None, Some}
use Rattle.std.proofs.Common.{length, get_or, set, drop, refl, sym, ap, ◌∙◌, arith}
use Rattle.std.specs.Prelude.{T as Holds, slice_get, not, ◌&&◌}
use Rattle.std.specs.declared.cmp.Ordering.{Ordering}
use Rattle.std.specs.declared.cmp.Ordering.TheVariants.{Less, Equal, Greater}
use Rattle.std.specs.declared.ops.Bound.TheVariants.{Included, Unbounded}
use Rattle.std.specs.Ordering.{is_lt, is_le, is_eq, eq_by_cmp, ordering_reverse}
use Rattle.std.specs.List.{insert}
use Rattle.std.specs.List.Sorted.{IsPartitionedBy}
use Rattle.std.specs.BTreeMap.Range.{entries_between}
use Rattle.std.specs.FinMap as finite
use Rattle.std.specs.FinMap.{is_sorted}
use Rattle.std.specs.FinMap.Entries.{find, put, below_all, by_order, find-put}
use Rattle.lattice_core.specs.Tests.{first_of_both, second_of_both, less}
use Rattle.lattice_core.specs.Keep.{IsExactOrder}
use Rattle.lattice_core.specs.JoinMap.{same_at_each_key}
use Rattle.chunk_list.specs.Ranks.{rank}
use Rattle.chunk_list.specs.Chunks.{is_some_passing}

and_true : (b : Bool) → (b && true) ≡ b
and_true true = refl
and_true false = refl

is_lt-Less : (r : Ordering) → is_lt r ≡ true → r ≡ Less
is_lt-Less Less e = refl
is_lt-Less Equal e = cc
is_lt-Less Greater e = cc

reverse_le : (r : Ordering) → is_le (ordering_reverse r) ≡ not (is_lt r)
reverse_le Less = refl
reverse_le Equal = refl
reverse_le Greater = refl

module _ {S : Type 0} {order : S → S → Ordering} (exact_order : IsExactOrder order) where
  turned : (a b : S) (r : Ordering) → order a b ≡ r → order b a ≡ ordering_reverse r
  turned a b r e = exact_order.total.antisymm b a ∙ ap ordering_reverse e

  not_before : (key x y : S) → is_lt (order x key) ≡ false → order x y ≡ Less → is_lt (order y key) ≡ false
  not_before key x y late above =
      elim (order y key) as (λ r. order y key ≡ r → is_lt r ≡ false) [
        | Less ↦ λ o. let early : is_lt (order x key) ≡ true = ap is_lt (exact_order.total.trans x y key above o) in cc
        | Equal ↦ λ o. refl
        | Greater ↦ λ o. refl
      ] refl

-- ---- lists of shapes
module _ {S X : Type 0} {order : S → S → Ordering} (exact_order : IsExactOrder order) where
  abbrev pub before : S → S × X → Bool
  before key e = is_lt (order e.0 key)

  abbrev pub at : S → S × X → Bool
  at key e = is_eq (order e.0 key)

  below_at : (x : S) (es : List (S × X)) → Holds (below_all order x es) → (j : ℕ) (d : S × X) → j < length es
      → order x (get_or es j d).0 ≡ Less
  below_at x [] h j d inside = absurd (omega (arith, inside))
  below_at x (e ∷ es) h zero d inside = less (order x e.0) (first_of_both (is_lt (order x e.0)) (below_all order x es) h)
  below_at x (e ∷ es) h (suc j) d inside =
      below_at x es (second_of_both (is_lt (order x e.0)) (below_all order x es) h) j d (omega (arith, inside))

  -- the pairs part at a key
  pub parted_sorted : (key : S) (es : List (S × X)) → Holds (is_sorted order es) → IsPartitionedBy (before key) es
  parted_sorted key [] h i j d low inside passes = absurd (omega (arith, inside))
  parted_sorted key (e ∷ es) h zero zero d low inside passes = passes
  parted_sorted key (e ∷ es) h zero (suc j) d low inside passes =
      ap is_lt (exact_order.total.trans e.0 (get_or es j d).0 key (below_at e.0 es (first_of_both (below_all order e.0 es) (is_sorted order es) h) j d (omega (arith, inside))) (is_lt-Less (order (get_or es j d).0 key) passes))
  parted_sorted key (e ∷ es) h (suc i) zero d low inside passes = absurd (omega (arith, low))
  parted_sorted key (e ∷ es) h (suc i) (suc j) d low inside passes =
      parted_sorted key es (second_of_both (below_all order e.0 es) (is_sorted order es) h) i j d (omega (arith, low)) (omega (arith, inside)) passes

  -- what is at the key, where this item is the first that doesn't come before it
  abbrev pub value_at : S → Option (S × X) → Option X
  value_at key None = None
  value_at key (Some e) = cond (at key e) (Some e.1) None

  find_none : (key x : S) (es : List (S × X)) → order key x ≡ Less → Holds (below_all order x es)
      → find order key es ≡ None
  find_none key x [] low h = refl
  find_none key x (e ∷ es) low h =
      ap (λ r. cond (is_eq r) (Some e.1) (find order key es)) (exact_order.total.trans key x e.0 low (less (order x e.0) (first_of_both (is_lt (order x e.0)) (below_all order x es) h)))
      ∙ find_none key x es low (second_of_both (is_lt (order x e.0)) (below_all order x es) h)

  pub find_at_rank : (key : S) (es : List (S × X)) → Holds (is_sorted order es)
      → find order key es ≡ value_at key (slice_get es (rank (before key) es))
  find_at_rank key [] h = refl
  find_at_rank key (e ∷ es) h =
      elim (order e.0 key) as (λ r. order e.0 key ≡ r → find order key (e ∷ es) ≡ value_at key (slice_get (e ∷ es) (cond (is_lt r) (suc (rank (before key) es)) 0))) [
        | Less ↦ λ o. ap (λ r. cond (is_eq r) (Some e.1) (find order key es)) (turned exact_order e.0 key Less o)
            ∙ find_at_rank key es (second_of_both (below_all order e.0 es) (is_sorted order es) h)
        | Equal ↦ λ o. ap (λ r. cond (is_eq r) (Some e.1) (find order key es)) (turned exact_order e.0 key Equal o)
            ∙ sym (ap (λ r. cond (is_eq r) (Some e.1) None) o)
        | Greater ↦ λ o. ap (λ r. cond (is_eq r) (Some e.1) (find order key es)) (turned exact_order e.0 key Greater o)
            ∙ find_none key e.0 es (turned exact_order e.0 key Greater o) (first_of_both (below_all order e.0 es) (is_sorted order es) h)
            ∙ sym (ap (λ r. cond (is_eq r) (Some e.1) None) o)
      ] refl

  -- a pair added there, where there is none at the key
  pub put_added : (key : S) (v : X) (es : List (S × X))
      → is_some_passing (at key) (slice_get es (rank (before key) es)) ≡ false
      → insert es (rank (before key) es) (key, v) ≡ put order key v es
  put_added key v [] unmet = refl
  put_added key v (e ∷ es) unmet =
      elim (order e.0 key) as (λ r. order e.0 key ≡ r → is_some_passing (at key) (slice_get (e ∷ es) (cond (is_lt r) (suc (rank (before key) es)) 0)) ≡ false → insert (e ∷ es) (cond (is_lt r) (suc (rank (before key) es)) 0) (key, v) ≡ put order key v (e ∷ es)) [
        | Less ↦ λ o none. ap (λ l. e ∷ l) (put_added key v es none)
            ∙ sym (ap (λ r. by_order r ((key, v) ∷ e ∷ es) ((e.0, v) ∷ es) (e ∷ put order key v es)) (turned exact_order e.0 key Less o))
        | Equal ↦ λ o none. let met : is_eq (order e.0 key) ≡ true = ap is_eq o in cc
        | Greater ↦ λ o none. sym (ap (λ r. by_order r ((key, v) ∷ e ∷ es) ((e.0, v) ∷ es) (e ∷ put order key v es)) (turned exact_order e.0 key Greater o))
      ] refl unmet

  -- or the one there changed
  pub put_changed : (key : S) (v : X) (held : S × X) (es : List (S × X))
      → slice_get es (rank (before key) es) ≡ Some held → at key held ≡ true
      → set es (rank (before key) es) (held.0, v) ≡ put order key v es
  put_changed key v held [] there met = cc
  put_changed key v held (e ∷ es) there met =
      elim (order e.0 key) as (λ r. order e.0 key ≡ r → slice_get (e ∷ es) (cond (is_lt r) (suc (rank (before key) es)) 0) ≡ Some held → set (e ∷ es) (cond (is_lt r) (suc (rank (before key) es)) 0) (held.0, v) ≡ put order key v (e ∷ es)) [
        | Less ↦ λ o here. ap (λ l. e ∷ l) (put_changed key v held es here met)
            ∙ sym (ap (λ r. by_order r ((key, v) ∷ e ∷ es) ((e.0, v) ∷ es) (e ∷ put order key v es)) (turned exact_order e.0 key Less o))
        | Equal ↦ λ o here.
            let same : e ≡ held = cc in
            ap (λ (h : S × X). (h.0, v) ∷ es) (sym same)
            ∙ sym (ap (λ r. by_order r ((key, v) ∷ e ∷ es) ((e.0, v) ∷ es) (e ∷ put order key v es)) (turned exact_order e.0 key Equal o))
        | Greater ↦ λ o here.
            let same : e ≡ held = cc in
            let no_match : is_eq (order e.0 key) ≡ false = ap is_eq o in
            let match : is_eq (order e.0 key) ≡ true = ap (λ (h : S × X). is_eq (order h.0 key)) same ∙ met in
            cc
      ] refl there

  -- the map with the pair put in
  pub map_put : (key : S) (v : X) (es : List (S × X))
      → finite.from_entries {R = order} (put order key v es) ≡ finite.insert (finite.from_entries es) key v
  map_put key v es = same_at_each_key exact_order _ _ (λ q.
      finite.get-from_entries exact_order.total (put order key v es) q
      ∙ find-put order exact_order.total q key v es
      ∙ ap (cond (eq_by_cmp order q key) (Some v)) (sym (finite.get-from_entries exact_order.total es q))
      ∙ sym (finite.get-insert exact_order.total (finite.from_entries es) key v q))

  -- pairs in order are the entries of their map
  pub entries_sorted_are : (es : List (S × X)) → Holds (is_sorted order es)
      → finite.entries (finite.from_entries {R = order} es) ≡ es
  entries_sorted_are es h =
      ap finite.entries (same_at_each_key exact_order (finite.from_entries es) (finite.from_sorted es) (λ q. finite.get-from_entries exact_order.total es q ∙ sym (finite.get-from_sorted order es q h)))
      ∙ finite.entries-from_sorted order es h

  -- ---- from a key on
  from_here : (key : S) (e : S × X) → (is_le (order key e.0) && true) ≡ not (before key e)
  from_here key e = ap (λ r. is_le r && true) (exact_order.total.antisymm key e.0) ∙ and_true (is_le (ordering_reverse (order e.0 key))) ∙ reverse_le (order e.0 key)

  all_from : (key x : S) (es : List (S × X)) → is_lt (order x key) ≡ false → Holds (below_all order x es)
      → entries_between order (Included key) Unbounded es ≡ es
  all_from key x [] late h = refl
  all_from key x (e ∷ es) late h =
      let above : order x e.0 ≡ Less = less (order x e.0) (first_of_both (is_lt (order x e.0)) (below_all order x es) h) in
      let later : is_lt (order e.0 key) ≡ false = not_before exact_order key x e.0 late above in
      ap (λ t. cond t (e ∷ entries_between order (Included key) Unbounded es) (entries_between order (Included key) Unbounded es))
      (from_here key e ∙ ap not later)
      ∙ ap (λ l. e ∷ l) (all_from key x es late (second_of_both (is_lt (order x e.0)) (below_all order x es) h))

  pub drop_at_rank : (key : S) (es : List (S × X)) → Holds (is_sorted order es)
      → drop (rank (before key) es) es ≡ entries_between order (Included key) Unbounded es
  drop_at_rank key [] h = refl
  drop_at_rank key (e ∷ es) h =
      let rest = entries_between order (Included key) Unbounded es in
      elim (before key e) as (λ t. before key e ≡ t → drop (cond t (suc (rank (before key) es)) 0) (e ∷ es) ≡ entries_between order (Included key) Unbounded (e ∷ es)) [
        | true ↦ λ t. drop_at_rank key es (second_of_both (below_all order e.0 es) (is_sorted order es) h)
            ∙ sym (ap (λ b. cond b (e ∷ rest) rest) (from_here key e ∙ ap not t))
        | false ↦ λ t. ap (λ l. e ∷ l) (sym (all_from key e.0 es t (first_of_both (below_all order e.0 es) (is_sorted order es) h)))
            ∙ sym (ap (λ b. cond b (e ∷ rest) rest) (from_here key e ∙ ap not t))
      ] refl
