-- How many pass a test from the front on, in a list that parts at it.
use Rattle.std.proofs.Common.{◌≡◌, ◌≤◌, ◌<◌, ◌+◌, ◌-◌, ℕ, zero, suc, Bool, true, false, cond, List, [], ◌∷◌, ◌++◌}
use Rattle.std.proofs.Common.{Option, None, Some, length, get_or, map, refl, sym, ap, ◌∙◌, arith}
use Rattle.std.specs.Prelude.{slice_get}
use Rattle.std.specs.List.{insert, remove}
use Rattle.std.specs.List.Sorted.{IsPartitionPoint, IsPartitionedBy}
use Rattle.std.proofs.lemmas.List.{length-append, length-map, get_or-map}
use Rattle.std.proofs.lemmas.Bool.{false≢true}
use Rattle.std.proofs.lemmas.Option.{slice_get_within, get_or_from_slice_get, slice_get-get_or}
use Rattle.std.proofs.Math.ListN.{get_or-append}
use Rattle.std.proofs.lemmas.List.{get_or-append-add}
use Rattle.chunk_list.specs.Ranks.{rank}
use Rattle.chunk_list.specs.Chunks.{is_some_passing, last_passes}

module _ {T : Type 0} (test : T → Bool) where
  pub rank-le : (xs : List T) → rank test xs ≤ length xs
  rank-le [] = omega arith
  rank-le (x ∷ xs) = elim (test x) as
      (λ t. cond t (suc (rank test xs)) 0 ≤ suc (length xs)) [ true ↦ omega (arith, rank-le xs) | false ↦ omega arith ]

  -- the point where a list parts is the rank
  pub rank-point : (xs : List T) (i : ℕ) → i ≤ length xs
      → IsPartitionPoint (λ x. test x ≡ true) (λ x. test x ≡ false) xs i → i ≡ rank test xs
  rank-point [] zero inside point = refl
  rank-point [] (suc i) inside point = absurd (omega (arith, inside))
  rank-point (x ∷ xs) zero inside point =
      ap (λ t. cond t (suc (rank test xs)) 0) (sym (point.1 0 x (omega arith) (omega arith)))
  rank-point (x ∷ xs) (suc i) inside point =
      ap suc (rank-point xs i (omega (arith, inside)) (
        λ k d low high. point.0 (suc k) d (omega arith) (omega (arith, high)),
        λ k d low high. point.1 (suc k) d (omega (arith, low)) (omega (arith, high)),
      ))
      ∙ ap (λ t. cond t (suc (rank test xs)) 0) (sym (point.0 0 x (omega arith) (omega arith)))

  -- the rank lies at or before each that fails
  pub rank-stops : (xs : List T) (k : ℕ) (d : T) → k < length xs → test (get_or xs k d) ≡ false → rank test xs ≤ k
  rank-stops [] k d inside fails = absurd (omega (arith, inside))
  rank-stops (x ∷ xs) zero d inside fails = elim (test x) as
      (λ t. t ≡ false → cond t (suc (rank test xs)) 0 ≤ 0) [ true ↦ λ e. cc | false ↦ λ e. omega arith ] fails
  rank-stops (x ∷ xs) (suc k) d inside fails =
      let rest = rank-stops xs k d (omega (arith, inside)) fails in
      elim (test x) as (λ t. cond t (suc (rank test xs)) 0 ≤ suc k) [ true ↦ omega (arith, rest) | false ↦ omega arith ]

  -- and the one there fails
  pub rank-fails : (xs : List T) (d : T) → rank test xs < length xs → test (get_or xs (rank test xs) d) ≡ false
  rank-fails [] d inside = absurd (omega (arith, inside))
  rank-fails (x ∷ xs) d inside = elim (test x) as (λ t. test x ≡ t → cond t (suc (rank test xs)) 0 < suc (length xs) → test (get_or (x ∷ xs) (cond t (suc (rank test xs)) 0) d) ≡ false) [
    | true ↦ λ e low. rank-fails xs d (omega (arith, low))
    | false ↦ λ e low. e
  ] refl inside

  -- ---- a list that is read as another
  module _ {S : Type 0} (read : S → T) where
    pub rank-map : (xs : List S) → rank (λ x. test (read x)) xs ≡ rank test (map read xs)
    rank-map [] = refl
    rank-map (x ∷ xs) = ap (λ n. cond (test (read x)) (suc n) 0) (rank-map xs)

    pub parted_map : (xs : List S) → IsPartitionedBy test (map read xs) → IsPartitionedBy (λ x. test (read x)) xs
    parted_map xs parted i j d low inside passes =
        ap test (sym (get_or-map read xs i d (read d) (omega (arith, low, inside))))
        ∙ parted i j (read d) low (omega (arith, inside, length-map xs read))
        (ap test (get_or-map read xs j d (read d) inside) ∙ passes)

  -- past all of the first list where all of it pass, else in it
  pub rank-append_all : (xs ys : List T) → rank test xs ≡ length xs → rank test (xs ++ ys) ≡ length xs + rank test ys
  rank-append_all [] ys all = omega arith
  rank-append_all (x ∷ xs) ys all = elim (test x) as (λ t. cond t (suc (rank test xs)) 0 ≡ suc (length xs) → cond t (suc (rank test (xs ++ ys))) 0 ≡ suc (length xs) + rank test ys) [
    | true ↦ λ e. omega (arith, rank-append_all xs ys (omega (arith, e)))
    | false ↦ λ e. absurd (omega (arith, e))
  ] all

  pub rank-append_some : (xs ys : List T) → rank test xs < length xs → rank test (xs ++ ys) ≡ rank test xs
  rank-append_some [] ys some = absurd (omega (arith, some))
  rank-append_some (x ∷ xs) ys some = elim (test x) as (λ t. cond t (suc (rank test xs)) 0 < suc (length xs) → cond t (suc (rank test (xs ++ ys))) 0 ≡ cond t (suc (rank test xs)) 0) [
    | true ↦ λ low. ap suc (rank-append_some xs ys (omega (arith, low)))
    | false ↦ λ low. refl
  ] some

  -- ---- parts of a list that parts
  pub parted_left : (xs ys : List T) → IsPartitionedBy test (xs ++ ys) → IsPartitionedBy test xs
  parted_left xs ys parted i j d low inside passes =
      ap test (sym (get_or-append xs ys d i (omega (arith, low, inside))))
      ∙ parted i j d low (omega (arith, inside, length-append xs ys))
      (ap test (get_or-append xs ys d j inside) ∙ passes)

  pub parted_right : (xs ys : List T) → IsPartitionedBy test (xs ++ ys) → IsPartitionedBy test ys
  parted_right xs ys parted i j d low inside passes =
      ap test (sym (get_or-append-add xs ys i d))
      ∙ parted (length xs + i) (length xs + j) d (omega (arith, low)) (omega (arith, inside, length-append xs ys))
      (ap test (get_or-append-add xs ys j d) ∙ passes)

  -- ---- the last item
  last_at : (xs : List T) (found : Option T) → found ≡ slice_get xs (length xs - 1) → is_some_passing test found ≡ true
      → (k : ℕ) (d : T) → k ≡ length xs - 1 → test (get_or xs k d) ≡ true
  last_at xs None there passes k d at = cc
  last_at xs (Some x) there passes k d at =
      ap test (ap (λ n. get_or xs n d) at ∙ get_or_from_slice_get xs (length xs - 1) x d (sym there)) ∙ passes

  some_last : (xs : List T) (found : Option T) → found ≡ slice_get xs (length xs - 1)
      → is_some_passing test found ≡ true → length xs - 1 < length xs
  some_last xs None there passes = cc
  some_last xs (Some x) there passes = slice_get_within xs (length xs - 1) x (sym there)

  -- where the last passes all do
  pub rank-last : (xs : List T) → IsPartitionedBy test xs → last_passes test xs ≡ true → rank test xs ≡ length xs
  rank-last xs parted passes =
      let inside : length xs - 1 < length xs = some_last xs (slice_get xs (length xs - 1)) refl passes in
      sym (rank-point xs (length xs) (omega arith) (
        λ k d low high. parted k (length xs - 1) d (omega (arith, high)) inside
            (last_at xs (slice_get xs (length xs - 1)) refl passes (length xs - 1) d refl),
        λ k d low high. absurd (omega (arith, low, high)),
      ))

  -- and where it fails the rank is inside
  pub rank-last_fails : (xs : List T) → 0 < length xs → last_passes test xs ≡ false → rank test xs < length xs
  rank-last_fails [] some fails = absurd (omega (arith, some))
  rank-last_fails (x ∷ xs) some fails =
      let last : length (x ∷ xs) - 1 < length (x ∷ xs) = omega (arith, some) in
      let low : rank test (x ∷ xs) ≤ length (x ∷ xs) - 1 =
      rank-stops (x ∷ xs) (length (x ∷ xs) - 1) x last (ap (is_some_passing test) (sym (slice_get-get_or (x ∷ xs) (length (x ∷ xs) - 1) x last)) ∙ fails) in
      omega (arith, low, last)

  pub last_passing : (xs : List T) (d : T) → last_passes test xs ≡ true
      → (i : ℕ) × (i < length xs) × (test (get_or xs i d) ≡ true)
  last_passing xs d passes =
      (length xs - 1, some_last xs (slice_get xs (length xs - 1)) refl passes, last_at xs (slice_get xs (length xs - 1)) refl passes (length xs - 1) d refl)

  -- the last of the first list passes where one of the second does
  pub first_passes : (xs ys : List T) → 0 < length xs → IsPartitionedBy test (xs ++ ys)
      → ((d : T) → (i : ℕ) × (i < length ys) × (test (get_or ys i d) ≡ true)) → last_passes test xs ≡ true
  first_passes [] ys some parted found = absurd (omega (arith, some))
  first_passes (x ∷ xs) ys some parted found =
      let at = found x in
      let last : length (x ∷ xs) - 1 < length (x ∷ xs) = omega (arith, some) in
      ap (is_some_passing test) (slice_get-get_or (x ∷ xs) (length (x ∷ xs) - 1) x last)
      ∙ ap test (sym (get_or-append (x ∷ xs) ys x (length (x ∷ xs) - 1) last))
      ∙ parted (length (x ∷ xs) - 1) (length (x ∷ xs) + at.0) x (omega (arith, last))
      (omega (arith, at.1, length-append (x ∷ xs) ys))
      (ap test (get_or-append-add (x ∷ xs) ys at.0 x) ∙ at.2)

  -- ---- one more that fails, before the first that does
  pub rank-inserted : (xs : List T) (y : T) → test y ≡ false → rank test (insert xs (rank test xs) y) ≡ rank test xs
  rank-inserted [] y fails = ap (λ t. cond t 1 0) fails
  rank-inserted (x ∷ xs) y fails = elim (test x) as (λ t. test x ≡ t → rank test (insert (x ∷ xs) (cond t (suc (rank test xs)) 0) y) ≡ cond t (suc (rank test xs)) 0) [
    | true ↦ λ e. ap (λ t. cond t (suc (rank test (insert xs (rank test xs) y))) 0) e
        ∙ ap suc (rank-inserted xs y fails)
    | false ↦ λ e. ap (λ t. cond t (suc (rank test (x ∷ xs))) 0) fails
  ] refl

  parted_cons : (x : T) (xs : List T) → test x ≡ true → IsPartitionedBy test xs → IsPartitionedBy test (x ∷ xs)
  parted_cons x xs first parted zero j d low inside passes = first
  parted_cons x xs first parted (suc i) zero d low inside passes = absurd (omega (arith, low))
  parted_cons x xs first parted (suc i) (suc j) d low inside passes =
      parted i j d (omega (arith, low)) (omega (arith, inside)) passes

  parted_before : (y x : T) (xs : List T) → test y ≡ false → test x ≡ false → IsPartitionedBy test (x ∷ xs)
      → IsPartitionedBy test (y ∷ x ∷ xs)
  parted_before y x xs first fails parted zero zero d low inside passes = passes
  parted_before y x xs first fails parted zero (suc j) d low inside passes =
      absurd (false≢true (sym fails ∙ parted 0 j d (omega arith) (omega (arith, inside)) passes))
  parted_before y x xs first fails parted (suc i) zero d low inside passes = absurd (omega (arith, low))
  parted_before y x xs first fails parted (suc i) (suc j) d low inside passes =
      parted i j d (omega (arith, low)) (omega (arith, inside)) passes

  parted_tail : (x : T) (xs : List T) → IsPartitionedBy test (x ∷ xs) → IsPartitionedBy test xs
  parted_tail x xs parted i j d low inside passes =
      parted (suc i) (suc j) d (omega (arith, low)) (omega (arith, inside)) passes

  alone : (y : T) → IsPartitionedBy test (y ∷ [])
  alone y zero zero d low inside passes = passes
  alone y zero (suc j) d low inside passes = absurd (omega (arith, inside))
  alone y (suc i) j d low inside passes = absurd (omega (arith, low, inside))

  pub parted_inserted : (xs : List T) (y : T) → test y ≡ false → IsPartitionedBy test xs
      → IsPartitionedBy test (insert xs (rank test xs) y)
  parted_inserted [] y fails parted = alone y
  parted_inserted (x ∷ xs) y fails parted =
      elim (test x) as (λ t. test x ≡ t → IsPartitionedBy test (insert (x ∷ xs) (cond t (suc (rank test xs)) 0) y)) [
        | true ↦ λ e. parted_cons x (insert xs (rank test xs) y) e (parted_inserted xs y fails (parted_tail x xs parted))
        | false ↦ λ e. parted_before y x xs fails e parted
      ] refl

-- what was inserted, taken out again
pub remove-inserted : {T : Type 0} (xs : List T) (i : ℕ) (y : T) → i ≤ length xs → remove (insert xs i y) i ≡ xs
remove-inserted xs zero y low = refl
remove-inserted [] (suc i) y low = absurd (omega (arith, low))
remove-inserted (x ∷ xs) (suc i) y low = ap (λ l. x ∷ l) (remove-inserted xs i y (omega (arith, low)))
