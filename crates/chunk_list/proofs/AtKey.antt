-- What a merge at a key makes of a map.
use Rattle.std.proofs.Common.{◌≡◌, ℕ, zero, suc, Bool, true, false, cond, List, [], ◌∷◌, Option, None, Some, Result, Ok, Err}
use Rattle.std.proofs.Common.{set, refl, sym, ap, ◌∙◌, subst}
use Rattle.std.specs.Prelude.{T as Holds, map, slice_get, MatchBool, OnOk, OnErr, IsOk}
use Rattle.std.specs.declared.cmp.Ordering.{Ordering}
use Rattle.std.specs.declared.cmp.Ordering.TheVariants.{Less, Equal, Greater}
use Rattle.std.specs.Ordering.{is_lt, is_eq}
use Rattle.std.specs.Option.{option_map}
use Rattle.std.specs.List.{insert}
use Rattle.std.specs.List.Sorted.{IsPartitionedBy}
use Rattle.std.specs.FinMap as finite
use Rattle.std.specs.FinMap.{is_sorted}
use Rattle.std.specs.FinMap.Entries.{put, is_sorted-put}
use Rattle.lattice_core.specs.Keep.{IsExactOrder}
use Rattle.lattice_core.specs.Join.{IsJoin, IsBetween, IsBetween-low}
use Rattle.lattice_core.specs.JoinMap.{map_of, map_joined, put_joined, put_joined-Some, put_joined-None}
use Rattle.lattice_core.specs.JoinMap.{put_joined-between, maps_join, Covers-put_joined}
use Rattle.chunk_list.specs.Ranks.{rank}
use Rattle.chunk_list.specs.RankLaws.{rank-map, parted_map}
use Rattle.chunk_list.specs.Chunks.{is_some_passing}
use Rattle.chunk_list.specs.Merged.{IsMerged}
use Rattle.chunk_list.proofs.Keyed.{before, at, value_at, parted_sorted, find_at_rank, put_added, put_changed, map_put}
use Rattle.chunk_list.proofs.Keyed.{drop_at_rank, entries_sorted_are}
use Rattle.std.proofs.Common.{drop}
use Rattle.std.specs.BTreeMap.Range.{entries_between}
use Rattle.std.specs.declared.ops.Bound.TheVariants.{Included, Unbounded}

on_ok_to : {Z E P Q : Type 0} (r : Result Z E) → (P → Q) → OnOk r P → OnOk r Q
on_ok_to (Ok z) step h = step h
on_ok_to (Err e) step h = h

on_err_to : {Z E P Q : Type 0} (r : Result Z E) → (P → Q) → OnErr r P → OnErr r Q
on_err_to (Ok z) step h = h
on_err_to (Err e) step h = step h

pub err_always : {Z E P : Type 0} (r : Result Z E) → P → OnErr r P
err_always (Ok z) h = tt
err_always (Err e) h = h

never : {Z E : Type 0} (P : Type 0) (r : Result Z E) → IsOk r → OnErr r P
never P (Ok z) h = tt
never P (Err e) h = cc

sorted_by : {Z E P Q R : Type 0} (r : Result Z E) → (P → R) → (Q → R) → OnOk r P → OnErr r Q → R
sorted_by (Ok z) p q ok err = p ok
sorted_by (Err e) p q ok err = q err

pub not_equal : (r : Ordering) → ¬ (r ≡ Equal) → is_eq r ≡ false
not_equal Less h = refl
not_equal Equal h = absurd (h refl)
not_equal Greater h = refl

slice_get-map : {A B : Type 0} (f : A → B) (xs : List A) (i : ℕ) → slice_get (map f xs) i ≡ option_map f (slice_get xs i)
slice_get-map f [] i = refl
slice_get-map f (x ∷ xs) zero = refl
slice_get-map f (x ∷ xs) (suc i) = slice_get-map f xs i

drop-map : {A B : Type 0} (f : A → B) (xs : List A) (i : ℕ) → map f (drop i xs) ≡ drop i (map f xs)
drop-map f xs zero = refl
drop-map f [] (suc i) = refl
drop-map f (x ∷ xs) (suc i) = drop-map f xs i

insert-map : {A B : Type 0} (f : A → B) (xs : List A) (i : ℕ) (y : A) → map f (insert xs i y) ≡ insert (map f xs) i (f y)
insert-map f xs zero y = refl
insert-map f [] (suc i) y = refl
insert-map f (x ∷ xs) (suc i) y = ap (λ l. f x ∷ l) (insert-map f xs i y)

set-map : {A B : Type 0} (f : A → B) (xs : List A) (i : ℕ) (y : A) → map f (set xs i y) ≡ set (map f xs) i (f y)
set-map f [] i y = refl
set-map f (x ∷ xs) zero y = refl
set-map f (x ∷ xs) (suc i) y = ap (λ l. f x ∷ l) (set-map f xs i y)

module _ {K V S X : Type 0} {order : S → S → Ordering} (exact_order : IsExactOrder order) (key_shape : K → S)
    (value_shape : V → X) where
  abbrev pub shape_of : K × V → S × X
  shape_of pair = (key_shape pair.0, value_shape pair.1)

  abbrev pub early : S → K × V → Bool
  early key pair = is_lt (order (key_shape pair.0) key)

  abbrev pub same_key : S → K × V → Bool
  same_key key pair = is_eq (order (key_shape pair.0) key)

  pub parted : (key : S) (es : List (K × V)) → Holds (is_sorted order (map shape_of es))
      → IsPartitionedBy (early key) es
  parted key es h = parted_map (before exact_order key) shape_of es (parted_sorted exact_order key (map shape_of es) h)

  pub rank_of : (key : S) (es : List (K × V)) → rank (early key) es ≡ rank (before exact_order key) (map shape_of es)
  rank_of key es = rank-map (before exact_order key) shape_of es

  abbrev pub value_of_pair : S → Option (K × V) → Option X
  value_of_pair key None = None
  value_of_pair key (Some pair) = cond (same_key key pair) (Some (value_shape pair.1)) None

  value_of_shape : (key : S) (o : Option (K × V)) → value_at exact_order key (option_map shape_of o) ≡ value_of_pair key o
  value_of_shape key None = refl
  value_of_shape key (Some pair) = refl

  met_shape : (key : S) (o : Option (K × V)) → is_some_passing (at exact_order key) (option_map shape_of o) ≡ is_some_passing (same_key key) o
  met_shape key None = refl
  met_shape key (Some pair) = refl

  pub none_of : (key : S) (o : Option (K × V)) → is_some_passing (same_key key) o ≡ false → value_of_pair key o ≡ None
  none_of key None unmet = refl
  none_of key (Some pair) unmet = ap (λ t. cond t (Some (value_shape pair.1)) None) unmet

  module _ (key : S) (es : List (K × V)) where
    there_shape : slice_get (map shape_of es) (rank (before exact_order key) (map shape_of es)) ≡ option_map shape_of (slice_get es (rank (early key) es))
    there_shape = ap (slice_get (map shape_of es)) (sym (rank_of key es)) ∙ slice_get-map shape_of es (rank (early key) es)

    -- what the map has at the key is what is at the rank
    pub get_at : Holds (is_sorted order (map shape_of es))
        → finite.get (map_of order key_shape value_shape es) key ≡ value_of_pair key (slice_get es (rank (early key) es))
    get_at h =
        finite.get-from_entries exact_order.total (map shape_of es) key ∙ find_at_rank exact_order key (map shape_of es) h
        ∙ ap (value_at exact_order key) there_shape ∙ value_of_shape key (slice_get es (rank (early key) es))

    pub shapes_added : (pair : K × V) → key_shape pair.0 ≡ key
        → is_some_passing (same_key key) (slice_get es (rank (early key) es)) ≡ false
        → map shape_of (insert es (rank (early key) es) pair) ≡ put order key (value_shape pair.1) (map shape_of es)
    shapes_added pair is unmet =
        insert-map shape_of es (rank (early key) es) pair
        ∙ ap (λ n. insert (map shape_of es) n (shape_of pair)) (rank_of key es)
        ∙ ap (λ (k : S). insert (map shape_of es) (rank (before exact_order key) (map shape_of es)) (k, value_shape pair.1)) is
        ∙ put_added exact_order key (value_shape pair.1) (map shape_of es)
        (ap (is_some_passing (at exact_order key)) there_shape ∙ met_shape key (slice_get es (rank (early key) es)) ∙ unmet)

    pub shapes_changed : (held kept : K × V) → kept.0 ≡ held.0
        → slice_get es (rank (early key) es) ≡ Some held → same_key key held ≡ true
        → map shape_of (set es (rank (early key) es) kept) ≡ put order key (value_shape kept.1) (map shape_of es)
    shapes_changed held kept stays there met =
        set-map shape_of es (rank (early key) es) kept
        ∙ ap (λ n. set (map shape_of es) n (shape_of kept)) (rank_of key es)
        ∙ ap (λ (k : K). set (map shape_of es) (rank (before exact_order key) (map shape_of es)) (key_shape k, value_shape kept.1)) stays
        ∙ put_changed exact_order key (value_shape kept.1) (shape_of held) (map shape_of es) (there_shape ∙ ap (option_map shape_of) there) met

  -- ---- a merge
  module _ {joined : X → X → X} (laws : IsJoin joined) {Z E : Type 0} (sure : Type 0) (k : K) (v : V)
      (answer : Result Z E) (old new : List (K × V)) (h : Holds (is_sorted order (map shape_of old))) where
    abbrev merges : K × V → Result Z E → K × V → Type 0
    merges held r kept = (kept.0 ≡ held.0) × OnOk r (value_shape kept.1 ≡ joined (value_shape held.1) (value_shape v))
        × OnErr r (IsBetween joined (value_shape held.1) (value_shape kept.1) (joined (value_shape held.1) (value_shape v)))
        × (sure → IsOk r)

    abbrev Merged : Type 0
    Merged = IsMerged (early (key_shape k)) (same_key (key_shape k)) merges (k, v) old answer new

    abbrev m : finite.FinMap order X
    m = map_of order key_shape value_shape old

    abbrev n : finite.FinMap order X
    n = map_of order key_shape value_shape new

    abbrev key : S
    key = key_shape k

    -- all that is said of the map after it
    pub record Outcome : Type 0 where
      pub sorted : Holds (is_sorted order (map shape_of new))
      pub ok : OnOk answer (n ≡ put_joined joined m key (value_shape v))
      pub err : OnErr answer (IsBetween (map_joined joined) m n (put_joined joined m key (value_shape v)))
      pub unchanged : sure → OnErr answer (n ≡ m)
      pub absent : sure → OnErr answer (finite.get m key ≡ None)

    changed : (held kept : K × V) → slice_get old (rank (early key) old) ≡ Some held → same_key key held ≡ true
        → merges held answer kept → new ≡ set old (rank (early key) old) kept → Outcome
    changed held kept there met merge is =
        let shapes = ap (map shape_of) is ∙ shapes_changed key old held kept merge.0 there met in
        let now : n ≡ finite.insert m key (value_shape kept.1) = ap finite.from_entries shapes ∙ map_put exact_order key (value_shape kept.1) (map shape_of old) in
        let was : finite.get m key ≡ Some (value_shape held.1) = get_at key old h ∙ ap (value_of_pair key) there ∙ ap (λ t. cond t (Some (value_shape held.1)) None) met in
        record {
          sorted = subst (λ l. Holds (is_sorted order l)) (sym shapes)
              (is_sorted-put order exact_order.total key (value_shape kept.1) (map shape_of old) h);
          ok = on_ok_to answer (λ e. now ∙ ap (finite.insert m key) e ∙ sym (put_joined-Some exact_order joined m key (value_shape held.1) (value_shape v) was)) merge.1;
          err = on_err_to answer (λ between. subst (λ o. IsBetween (map_joined joined) m o (put_joined joined m key (value_shape v))) (sym now)
              (put_joined-between exact_order laws m key (value_shape held.1) (value_shape kept.1) (value_shape v) was between)) merge.2;
          unchanged = λ is_sure. never (n ≡ m) answer (merge.3 is_sure);
          absent = λ is_sure. never (finite.get m key ≡ None) answer (merge.3 is_sure);
        }

    added : is_some_passing (same_key key) (slice_get old (rank (early key) old)) ≡ false
        → OnOk answer (new ≡ insert old (rank (early key) old) (k, v)) → OnErr answer (new ≡ old) → Outcome
    added unmet ok err =
        let shapes : new ≡ insert old (rank (early key) old) (k, v) → map shape_of new ≡ put order key (value_shape v) (map shape_of old) =
        λ e. ap (map shape_of) e ∙ shapes_added key old (k, v) refl unmet in
        let none : finite.get m key ≡ None = get_at key old h ∙ none_of key (slice_get old (rank (early key) old)) unmet in
        record {
          sorted = sorted_by answer (λ e. subst (λ l. Holds (is_sorted order l)) (sym (shapes e)) (is_sorted-put order exact_order.total key (value_shape v) (map shape_of old) h))
              (λ e. subst (λ l. Holds (is_sorted order (map shape_of l))) (sym e) h) ok err;
          ok = on_ok_to answer (λ e. ap finite.from_entries (shapes e) ∙ map_put exact_order key (value_shape v) (map shape_of old) ∙ sym (put_joined-None exact_order joined m key (value_shape v) none)) ok;
          err = on_err_to answer (λ e. subst (λ l. IsBetween (map_joined joined) m (map_of order key_shape value_shape l) (put_joined joined m key (value_shape v))) (sym e)
              (IsBetween-low (maps_join exact_order laws) _ _ (Covers-put_joined exact_order laws m key (value_shape v)))) err;
          unchanged = λ _. on_err_to answer (λ e. ap (map_of order key_shape value_shape) e) err;
          absent = λ _. on_err_to answer (λ _. none) err;
        }

    pub outcome : Merged → Outcome
    outcome is = elim (is_some_passing (same_key key) (slice_get old (rank (early key) old))) as (λ t. is_some_passing (same_key key) (slice_get old (rank (early key) old)) ≡ t → MatchBool t ((held kept : K × V) × (slice_get old (rank (early key) old) ≡ Some held) × merges held answer kept × (new ≡ set old (rank (early key) old) kept)) (OnOk answer (new ≡ insert old (rank (early key) old) (k, v)) × OnErr answer (new ≡ old)) → Outcome) [
      | true ↦ λ t (held, kept, there, merge, set_is). changed held kept there (ap (is_some_passing (same_key key)) (sym there) ∙ t) merge set_is
      | false ↦ λ t (ok, err). added t ok err
    ] refl is

  -- the pairs from the key on
  pub shapes_from : (key : S) (es : List (K × V)) → Holds (is_sorted order (map shape_of es))
      → map shape_of (drop (rank (early key) es) es)
      ≡ entries_between order (Included key) Unbounded (finite.entries (map_of order key_shape value_shape es))
  shapes_from key es h =
      drop-map shape_of es (rank (early key) es) ∙ ap (λ n. drop n (map shape_of es)) (rank_of key es)
      ∙ drop_at_rank exact_order key (map shape_of es) h
      ∙ ap (entries_between order (Included key) Unbounded) (sym (entries_sorted_are exact_order (map shape_of es) h))
