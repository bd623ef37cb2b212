-- A first chunk and the rest as one list: where in it the first item is that doesn't pass, and what an edit makes of
-- it.
use Rattle.std.proofs.Common.{◌≡◌, ◌≤◌, ◌<◌, ◌+◌, ◌-◌, ℕ, zero, suc, Bool, List, [], ◌∷◌, ◌++◌, Some}
use Rattle.std.proofs.Common.{length, set, drop, refl, sym, ap, ◌∙◌, arith}
use Rattle.std.specs.Prelude.{slice_get}
use Rattle.std.specs.List.{insert, remove}
use Rattle.std.proofs.lemmas.List.{drop-append-le, set-append_left, set-append_right, append-nil, length-append}
use Rattle.std.proofs.lemmas.List.Edits.{insert-append_left, insert-append_right, remove-append_left}
use Rattle.std.proofs.lemmas.List.Edits.{remove-append_right}
use Rattle.std.proofs.lemmas.Option.{slice_get_within}
use Rattle.std.proofs.Math.Seq.{drop-append-add}
use Rattle.std.proofs.Common.{true, false, Option, None, Result, subst}
use Rattle.std.specs.Prelude.{MatchBool, OnOk, OnErr}
use Rattle.std.proofs.lemmas.Result.{on_ok_weaker, on_err_weaker}
use Rattle.chunk_list.specs.Ranks.{rank}
use Rattle.chunk_list.specs.Chunks.{is_some_passing}
use Rattle.chunk_list.specs.Merged.{IsMerged}
use Rattle.chunk_list.specs.RankLaws.{rank-le, rank-append_all, rank-append_some}

get_left : {T : Type 0} (xs ys : List T) (k : ℕ) → k < length xs → slice_get xs k ≡ slice_get (xs ++ ys) k
get_left [] ys k low = absurd (omega (arith, low))
get_left (x ∷ xs) ys zero low = refl
get_left (x ∷ xs) ys (suc k) low = get_left xs ys k (omega (arith, low))

get_right : {T : Type 0} (xs ys : List T) (k : ℕ) → slice_get ys k ≡ slice_get (xs ++ ys) (length xs + k)
get_right [] ys k = let e : k ≡ 0 + k = omega arith in ap (slice_get ys) e
get_right (x ∷ xs) ys k =
    let e : suc (length xs + k) ≡ suc (length xs) + k = omega arith in
    get_right xs ys k ∙ ap (slice_get (x ∷ xs ++ ys)) e

-- the last of a list is that of its second part, where this has one
pub last_right : {T : Type 0} (xs ys : List T) → 0 < length ys
    → slice_get ys (length ys - 1) ≡ slice_get (xs ++ ys) (length (xs ++ ys) - 1)
last_right xs ys some =
    let e : length xs + (length ys - 1) ≡ length (xs ++ ys) - 1 = omega (arith, length-append xs ys, some) in
    get_right xs ys (length ys - 1) ∙ ap (slice_get (xs ++ ys)) e

module _ {T : Type 0} (test : T → Bool) (xs ys : List T) (index : ℕ) (is : index ≡ rank test xs) where
  module _ (low : index < length xs) where
    pub here : index ≡ rank test (xs ++ ys)
    here = is ∙ sym (rank-append_some test xs ys (omega (arith, is, low)))

    pub get_here : slice_get xs index ≡ slice_get (xs ++ ys) (rank test (xs ++ ys))
    get_here = get_left xs ys index low ∙ ap (slice_get (xs ++ ys)) here

    pub drop_here : drop index xs ++ ys ≡ drop (rank test (xs ++ ys)) (xs ++ ys)
    drop_here = sym (drop-append-le index xs ys (omega (arith, low))) ∙ ap (λ n. drop n (xs ++ ys)) here

    pub remove_here : remove xs index ++ ys ≡ remove (xs ++ ys) (rank test (xs ++ ys))
    remove_here = sym (remove-append_left xs ys index low) ∙ ap (remove (xs ++ ys)) here

    pub set_here : (x : T) → set xs index x ++ ys ≡ set (xs ++ ys) (rank test (xs ++ ys)) x
    set_here x = sym (set-append_left xs ys index x low) ∙ ap (λ n. set (xs ++ ys) n x) here

    pub insert_here : (x : T) → insert xs index x ++ ys ≡ insert (xs ++ ys) (rank test (xs ++ ys)) x
    insert_here x = sym (insert-append_left xs ys index x (omega (arith, low))) ∙ ap (λ n. insert (xs ++ ys) n x) here

  module _ (high : length xs ≤ index) where
    pub past : length xs + rank test ys ≡ rank test (xs ++ ys)
    past = sym (rank-append_all test xs ys (omega (arith, is, high, rank-le test xs)))

    pub get_past : slice_get ys (rank test ys) ≡ slice_get (xs ++ ys) (rank test (xs ++ ys))
    get_past = get_right xs ys (rank test ys) ∙ ap (slice_get (xs ++ ys)) past

    pub drop_past : drop (rank test ys) ys ≡ drop (rank test (xs ++ ys)) (xs ++ ys)
    drop_past = sym (drop-append-add xs ys (rank test ys)) ∙ ap (λ n. drop n (xs ++ ys)) past

    left_over : rank test (xs ++ ys) - length xs ≡ rank test ys
    left_over = omega (arith, past)

    pub remove_past : xs ++ remove ys (rank test ys) ≡ remove (xs ++ ys) (rank test (xs ++ ys))
    remove_past = ap (λ n. xs ++ remove ys n) (sym left_over)
        ∙ sym (remove-append_right xs ys (length xs) (rank test (xs ++ ys)) refl (omega (arith, past)))

    pub set_past : (x : T) → xs ++ set ys (rank test ys) x ≡ set (xs ++ ys) (rank test (xs ++ ys)) x
    set_past x = ap (λ n. xs ++ set ys n x) (sym left_over)
        ∙ sym (set-append_right xs ys (length xs) (rank test (xs ++ ys)) x refl (omega (arith, past)))

    pub insert_past : (x : T) → xs ++ insert ys (rank test ys) x ≡ insert (xs ++ ys) (rank test (xs ++ ys)) x
    insert_past x = ap (λ n. xs ++ insert ys n x) (sym left_over)
        ∙ sym (insert-append_right xs ys (length xs) (rank test (xs ++ ys)) x refl (omega (arith, past)))

    pub there_past : rank test (xs ++ ys) < length (xs ++ ys) → rank test ys < length ys
    there_past inside = omega (arith, past, inside, length-append xs ys)

  -- where the rest has nothing
  pub insert_alone : (x : T) → ys ≡ [] → insert xs index x ++ ys ≡ insert (xs ++ ys) (rank test (xs ++ ys)) x
  insert_alone x none =
      ap (λ l. insert xs index x ++ l) none ∙ append-nil (insert xs index x)
      ∙ ap (λ n. insert xs n x) is ∙ ap (λ l. insert l (rank test l) x) (sym (append-nil xs) ∙ ap (λ l. xs ++ l) (sym none))

-- ---- an entry merged
pub is_some_there : {T : Type 0} (meets : T → Bool) (o : Option T) → is_some_passing meets o ≡ true
    → (held : T) × (o ≡ Some held)
is_some_there meets None e = cc
is_some_there meets (Some x) e = (x, refl)

module _ {T X E : Type 0} (passes meets : T → Bool) (merges : T → Result X E → T → Type 0) (entry : T)
    (answer : Result X E) where
  -- into the one that is there
  pub merged_there : (old new : List T) → is_some_passing meets (slice_get old (rank passes old)) ≡ true
      → (held kept : T) × (slice_get old (rank passes old) ≡ Some held) × merges held answer kept
      × (new ≡ set old (rank passes old) kept) → IsMerged passes meets merges entry old answer new
  merged_there old new met there =
      subst (λ t. MatchBool t ((held kept : T) × (slice_get old (rank passes old) ≡ Some held) × merges held answer kept × (new ≡ set old (rank passes old) kept)) (OnOk answer (new ≡ insert old (rank passes old) entry) × OnErr answer (new ≡ old))) (sym met) there

  -- or added
  pub merged_added : (old new : List T) → is_some_passing meets (slice_get old (rank passes old)) ≡ false
      → OnOk answer (new ≡ insert old (rank passes old) entry) → OnErr answer (new ≡ old)
      → IsMerged passes meets merges entry old answer new
  merged_added old new unmet ok err =
      subst (λ t. MatchBool t ((held kept : T) × (slice_get old (rank passes old) ≡ Some held) × merges held answer kept × (new ≡ set old (rank passes old) kept)) (OnOk answer (new ≡ insert old (rank passes old) entry) × OnErr answer (new ≡ old))) (sym unmet) (ok, err)

  -- what is merged into the first chunk is merged into the whole
  pub merged_whole : (xs ys new : List T) → slice_get xs (rank passes xs) ≡ slice_get (xs ++ ys) (rank passes (xs ++ ys))
      → ((x : T) → rank passes xs < length xs → set xs (rank passes xs) x ++ ys ≡ set (xs ++ ys) (rank passes (xs ++ ys)) x)
      → ((x : T) → insert xs (rank passes xs) x ++ ys ≡ insert (xs ++ ys) (rank passes (xs ++ ys)) x)
      → IsMerged passes meets merges entry xs answer new → IsMerged passes meets merges entry (xs ++ ys) answer (new ++ ys)
  merged_whole xs ys new same kept added is =
      subst (λ o. MatchBool (is_some_passing meets o) ((held kept : T) × (o ≡ Some held) × merges held answer kept × (new ++ ys ≡ set (xs ++ ys) (rank passes (xs ++ ys)) kept)) (OnOk answer (new ++ ys ≡ insert (xs ++ ys) (rank passes (xs ++ ys)) entry) × OnErr answer (new ++ ys ≡ xs ++ ys))) same
      (elim (is_some_passing meets (slice_get xs (rank passes xs))) as (λ t. MatchBool t ((held kept : T) × (slice_get xs (rank passes xs) ≡ Some held) × merges held answer kept × (new ≡ set xs (rank passes xs) kept)) (OnOk answer (new ≡ insert xs (rank passes xs) entry) × OnErr answer (new ≡ xs)) → MatchBool t ((held kept : T) × (slice_get xs (rank passes xs) ≡ Some held) × merges held answer kept × (new ++ ys ≡ set (xs ++ ys) (rank passes (xs ++ ys)) kept)) (OnOk answer (new ++ ys ≡ insert (xs ++ ys) (rank passes (xs ++ ys)) entry) × OnErr answer (new ++ ys ≡ xs ++ ys))) [
        | true ↦ λ (held, now, there, merge, is_set). (held, now, there, merge, ap (λ l. l ++ ys) is_set ∙ kept now (slice_get_within xs (rank passes xs) held there))
        | false ↦ λ (ok, err). (on_ok_weaker answer (λ e. ap (λ l. l ++ ys) e ∙ added entry) ok, on_err_weaker answer (λ e. ap (λ l. l ++ ys) e) err)
      ] is)

  pub merged_here : (xs ys new : List T) → rank passes xs < length xs → IsMerged passes meets merges entry xs answer new
      → IsMerged passes meets merges entry (xs ++ ys) answer (new ++ ys)
  merged_here xs ys new low = merged_whole xs ys new (get_here passes xs ys (rank passes xs) refl low)
      (λ x _. set_here passes xs ys (rank passes xs) refl low x) (insert_here passes xs ys (rank passes xs) refl low)

  pub merged_alone : (xs ys new : List T) → ys ≡ [] → IsMerged passes meets merges entry xs answer new
      → IsMerged passes meets merges entry (xs ++ ys) answer (new ++ ys)
  merged_alone xs ys new none is =
      let P : List T → Type 0 = λ l. IsMerged passes meets merges entry (xs ++ l) answer (new ++ l) in
      let Q : List T → Type 0 = λ l. IsMerged passes meets merges entry l answer (new ++ []) in
      let R : List T → Type 0 = λ l. IsMerged passes meets merges entry xs answer l in
      subst P (sym none) (subst Q (sym (append-nil xs)) (subst R (sym (append-nil new)) is))
