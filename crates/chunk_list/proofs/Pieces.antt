-- What an edit of one chunk makes of the whole list.
use Rattle.std.proofs.Common.{◌≡◌, ◌≤◌, ◌<◌, ◌+◌, ◌-◌, inl, inr, ℕ, zero, suc, List, [], ◌∷◌, ◌++◌, Some, length}
use Rattle.std.proofs.Common.{get_or, set, take, drop, refl, sym, ap, subst, ◌∙◌, arith, add-one, get_or-append-add}
use Rattle.std.specs.Prelude.{slice_get}
use Rattle.std.specs.List.{All, flat_map, insert, remove}
use Rattle.std.proofs.lemmas.List.{length-append, take_all, drop_all, drop-append-le, set-append_left, set-append_right}
use Rattle.std.proofs.lemmas.List.{append_assoc, append-nil}
use Rattle.std.proofs.lemmas.List.Edits.{insert-append_left, insert-append_right, remove-append_left}
use Rattle.std.proofs.lemmas.List.Edits.{remove-append_right}
use Rattle.std.proofs.lemmas.List.Elements.{All-cons, All-head, All-tail}
use Rattle.std.proofs.lemmas.Option.{slice_get_cases, slice_get_read, slice_get_within}
use Rattle.std.proofs.lemmas.Option.{get_or_from_slice_get}
use Rattle.std.proofs.Math.ListN.{get_or-append}
use Rattle.std.proofs.Math.Seq.{drop-append-add}
use Rattle.chunk_list.specs.Chunks.{place_of, IsInside}

module _ {C T : Type 0} (items : C → List T) where
  abbrev before : List C → ℕ → List T
  before chunks k = flat_map items (take k chunks)

  abbrev after : List C → ℕ → List T
  after chunks k = flat_map items (drop (suc k) chunks)

  -- the whole is what comes before a chunk, the chunk, and what comes after it
  split : (chunks : List C) (k : ℕ) (d : C) → k < length chunks
      → flat_map items chunks ≡ before chunks k ++ (items (get_or chunks k d) ++ after chunks k)
  split [] k d inside = absurd (omega (arith, inside))
  split (chunk ∷ chunks) zero d inside = refl
  split (chunk ∷ chunks) (suc k) d inside = ap (λ l. items chunk ++ l) (split chunks k d (omega (arith, inside)))
      ∙ sym (append_assoc (items chunk) (before chunks k) (items (get_or chunks k d) ++ after chunks k))

  split_set : (chunks : List C) (k : ℕ) (new : C) → k < length chunks
      → flat_map items (set chunks k new) ≡ before chunks k ++ (items new ++ after chunks k)
  split_set [] k new inside = absurd (omega (arith, inside))
  split_set (chunk ∷ chunks) zero new inside = refl
  split_set (chunk ∷ chunks) (suc k) new inside =
      ap (λ l. items chunk ++ l) (split_set chunks k new (omega (arith, inside)))
      ∙ sym (append_assoc (items chunk) (before chunks k) (items new ++ after chunks k))

  module _ (chunks : List C) (k : ℕ) (d : C) (inside : k < length chunks) where
    abbrev here : List T
    here = items (get_or chunks k d)

    -- ---- looks
    get_at : (i : ℕ) → i < length here
        → slice_get here i ≡ slice_get (flat_map items chunks) (place_of items chunks k i)
    get_at i low =
        let whole = split chunks k d inside in
        let bound : place_of items chunks k i < length (flat_map items chunks) = omega (arith, ap length whole, length-append (before chunks k) (here ++ after chunks k), length-append here (after chunks k), low) in
        elim (slice_get_cases here i).1 [
          | inl w ↦ w.2 ∙ sym (slice_get_read (flat_map items chunks) (length (flat_map items chunks)) (place_of items chunks k i) w.0 refl bound
              (sym (ap (λ l. get_or l (place_of items chunks k i) w.0) whole ∙ get_or-append-add (before chunks k) (here ++ after chunks k) i w.0 ∙ get_or-append here (after chunks k) w.0 i w.1 ∙ w.3)))
          | inr w ↦ absurd (omega (arith, w.0, low))
        ]

    on_at : (i : ℕ) → i < length here
        → drop i here ++ flat_map items (drop (k + 1) chunks) ≡ drop (place_of items chunks k i) (flat_map items chunks)
    on_at i low =
        ap (λ n. drop i here ++ flat_map items (drop n chunks)) (add-one k)
        ∙ sym (ap (drop (place_of items chunks k i)) (split chunks k d inside) ∙ drop-append-add (before chunks k) (here ++ after chunks k) i ∙ drop-append-le i here (after chunks k) (omega (arith, low)))

    -- ---- edits of a chunk
    pub inserted : (i : ℕ) (x : T) (new : C) → i ≤ length here → items new ≡ insert here i x
        → flat_map items (set chunks k new) ≡ insert (flat_map items chunks) (place_of items chunks k i) x
    inserted i x new low is =
        split_set chunks k new inside ∙ ap (λ m. before chunks k ++ (m ++ after chunks k)) is
        ∙ ap (λ l. before chunks k ++ l) (sym (insert-append_left here (after chunks k) i x low))
        ∙ ap (λ n. before chunks k ++ insert (here ++ after chunks k) n x) (omega arith)
        ∙ sym (insert-append_right (before chunks k) (here ++ after chunks k) (length (before chunks k)) (place_of items chunks k i) x refl (omega arith))
        ∙ ap (λ l. insert l (place_of items chunks k i) x) (sym (split chunks k d inside))

    pub removed : (i : ℕ) (new : C) → i < length here → items new ≡ remove here i
        → flat_map items (set chunks k new) ≡ remove (flat_map items chunks) (place_of items chunks k i)
    removed i new low is =
        split_set chunks k new inside ∙ ap (λ m. before chunks k ++ (m ++ after chunks k)) is
        ∙ ap (λ l. before chunks k ++ l) (sym (remove-append_left here (after chunks k) i low))
        ∙ ap (λ n. before chunks k ++ remove (here ++ after chunks k) n) (omega arith)
        ∙ sym (remove-append_right (before chunks k) (here ++ after chunks k) (length (before chunks k)) (place_of items chunks k i) refl (omega arith))
        ∙ ap (λ l. remove l (place_of items chunks k i)) (sym (split chunks k d inside))

    pub replaced : (i : ℕ) (x : T) (new : C) → i < length here → items new ≡ set here i x
        → flat_map items (set chunks k new) ≡ set (flat_map items chunks) (place_of items chunks k i) x
    replaced i x new low is =
        split_set chunks k new inside ∙ ap (λ m. before chunks k ++ (m ++ after chunks k)) is
        ∙ ap (λ l. before chunks k ++ l) (sym (set-append_left here (after chunks k) i x low))
        ∙ ap (λ n. before chunks k ++ set (here ++ after chunks k) n x) (omega arith)
        ∙ sym (set-append_right (before chunks k) (here ++ after chunks k) (length (before chunks k)) (place_of items chunks k i) x refl (omega arith))
        ∙ ap (λ l. set l (place_of items chunks k i) x) (sym (split chunks k d inside))

    -- a chunk whose items stay
    pub kept : (new : C) → items new ≡ here → flat_map items (set chunks k new) ≡ flat_map items chunks
    kept new is = split_set chunks k new inside ∙ ap (λ m. before chunks k ++ (m ++ after chunks k)) is
        ∙ sym (split chunks k d inside)

    -- an item after the last
    pub pushed : (x : T) (new : C) → k ≡ length chunks - 1 → items new ≡ here ++ x ∷ []
        → flat_map items (set chunks k new) ≡ flat_map items chunks ++ x ∷ []
    pushed x new last is =
        let none : after chunks k ≡ [] = ap (flat_map items) (drop_all (suc k) chunks (omega (arith, last, inside))) in
        split_set chunks k new inside ∙ ap (λ m. before chunks k ++ (m ++ after chunks k)) is
        ∙ ap (λ l. before chunks k ++ ((here ++ x ∷ []) ++ l)) none
        ∙ ap (λ l. before chunks k ++ l) (append-nil (here ++ x ∷ []))
        ∙ sym (append_assoc (before chunks k) here (x ∷ []))
        ∙ ap (λ l. l ++ x ∷ []) (ap (λ l. before chunks k ++ l) (sym (append-nil here) ∙ ap (λ l. here ++ l) (sym none)) ∙ sym (split chunks k d inside))

  -- a chunk without items goes
  pub emptied : (chunks : List C) (k : ℕ) (new : C) → k < length chunks → items new ≡ []
      → flat_map items (remove (set chunks k new) k) ≡ flat_map items (set chunks k new)
  emptied [] k new inside is = absurd (omega (arith, inside))
  emptied (chunk ∷ chunks) zero new inside is = ap (λ l. l ++ flat_map items chunks) (sym is)
  emptied (chunk ∷ chunks) (suc k) new inside is =
      ap (λ l. items chunk ++ l) (emptied chunks k new (omega (arith, inside)) is)

  pub item_there : (chunks : List C) (k i : ℕ) (found : C) → k < length chunks → found ≡ get_or chunks k found
      → IsInside items chunks k i
      → slice_get (items found) i ≡ slice_get (flat_map items chunks) (place_of items chunks k i)
  item_there chunks k i found inside at (inl low) =
      ap (λ c. slice_get (items c) i) at ∙ get_at chunks k found inside i (low.1 found)
  item_there chunks k i found inside at (inr past) = absurd (omega (arith, past.0, inside))

  pub items_on : (chunks : List C) (k i : ℕ) (found : C) → k < length chunks → found ≡ get_or chunks k found
      → IsInside items chunks k i
      → drop i (items found) ++ flat_map items (drop (k + 1) chunks)
      ≡ drop (place_of items chunks k i) (flat_map items chunks)
  items_on chunks k i found inside at (inl low) = ap (λ c. drop i (items c) ++ flat_map items (drop (k + 1) chunks)) at
      ∙ on_at chunks k found inside i (low.1 found)
  items_on chunks k i found inside at (inr past) = absurd (omega (arith, past.0, inside))

  -- ---- a chunk in halves
  pub halved : (chunks : List C) (k : ℕ) (first rest none d : C) → k < length chunks
      → items (get_or chunks k d) ≡ items first ++ items rest
      → flat_map items (set (set (insert chunks (suc k) none) k first) (suc k) rest) ≡ flat_map items chunks
  halved [] k first rest none d inside is = absurd (omega (arith, inside))
  halved (chunk ∷ chunks) zero first rest none d inside is =
      sym (append_assoc (items first) (items rest) (flat_map items chunks))
      ∙ ap (λ l. l ++ flat_map items chunks) (sym is)
  halved (chunk ∷ chunks) (suc k) first rest none d inside is =
      ap (λ l. items chunk ++ l) (halved chunks k first rest none d (omega (arith, inside)) is)

  pub halves_filled : (P : C → Type 0) (chunks : List C) (k : ℕ) (first rest none : C) → k < length chunks
      → All P chunks → P first → P rest → All P (set (set (insert chunks (suc k) none) k first) (suc k) rest)
  halves_filled P [] k first rest none inside all p q = absurd (omega (arith, inside))
  halves_filled P (chunk ∷ chunks) zero first rest none inside all p q =
      All-cons P first (rest ∷ chunks) p (All-cons P rest chunks q (All-tail P chunk chunks all))
  halves_filled P (chunk ∷ chunks) (suc k) first rest none inside all p q =
      All-cons P chunk (set (set (insert chunks (suc k) none) k first) (suc k) rest) (All-head P chunk chunks all)
      (halves_filled P chunks k first rest none (omega (arith, inside)) (All-tail P chunk chunks all) p q)

  -- and the chunk as it was
  pub undone : (chunks : List C) (k : ℕ) (none d : C) → k < length chunks
      → remove (set (insert chunks (suc k) none) k (get_or chunks k d)) (suc k) ≡ chunks
  undone [] k none d inside = absurd (omega (arith, inside))
  undone (chunk ∷ chunks) zero none d inside = refl
  undone (chunk ∷ chunks) (suc k) none d inside = ap (λ l. chunk ∷ l) (undone chunks k none d (omega (arith, inside)))

  pub index_inside : (chunks : List C) (k i : ℕ) (d : C) → k < length chunks → IsInside items chunks k i
      → i < length (items (get_or chunks k d))
  index_inside chunks k i d inside (inl low) = low.1 d
  index_inside chunks k i d inside (inr past) = absurd (omega (arith, past.0, inside))

  pub found_at : (chunks : List C) (k i : ℕ) (found : C) → k < length chunks → found ≡ get_or chunks k found
      → IsInside items chunks k i → (x : T) → x ≡ get_or (items found) i x
      → Some x ≡ slice_get (flat_map items chunks) (place_of items chunks k i)
  found_at chunks k i found inside at spot x is =
      sym (slice_get_read (items found) (length (items found)) i x refl (subst (λ c. i < length (items c)) (sym at) (index_inside chunks k i found inside spot)) is) ∙ item_there chunks k i found inside at spot

  -- the last of the last chunk is the last of all
  pub last_there : (chunks : List C) (found : C) → 0 < length (items found) → Some found ≡ slice_get chunks
      (length chunks - 1) → slice_get (items found) (length (items found) - 1) ≡ slice_get (flat_map items chunks)
      (length (flat_map items chunks) - 1)
  last_there chunks found some there =
      let k = length chunks - 1 in
      let inside : k < length chunks = slice_get_within chunks k found (sym there) in
      let at : get_or chunks k found ≡ found = get_or_from_slice_get chunks k found found (sym there) in
      let low : length (items found) - 1 < length (items (get_or chunks k found)) = omega (arith, some, ap (λ c. length (items c)) at) in
      let none : after chunks k ≡ [] = ap (flat_map items) (drop_all (suc k) chunks (omega (arith, inside))) in
      let all : place_of items chunks k (length (items found) - 1) ≡ length (flat_map items chunks) - 1 =
      omega (arith, some, ap length (split chunks k found inside), length-append (before chunks k) (items (get_or chunks k found) ++ after chunks k), length-append (items (get_or chunks k found)) (after chunks k), ap length none, ap (λ c. length (items c)) at) in
      ap (λ c. slice_get (items c) (length (items found) - 1)) (sym at)
      ∙ get_at chunks k found inside (length (items found) - 1) low ∙ ap (slice_get (flat_map items chunks)) all

  -- so there is one
  pub some_there : (chunks : List C) (found : C) → 0 < length (items found)
      → Some found ≡ slice_get chunks (length chunks - 1) → 0 < length (flat_map items chunks)
  some_there chunks found some there =
      let k = length chunks - 1 in
      let inside : k < length chunks = slice_get_within chunks k found (sym there) in
      let at : get_or chunks k found ≡ found = get_or_from_slice_get chunks k found found (sym there) in
      omega (arith, some, ap length (split chunks k found inside), length-append (before chunks k) (items (get_or chunks k found) ++ after chunks k), length-append (items (get_or chunks k found)) (after chunks k), ap (λ c. length (items c)) at)

  -- a spot that isn't past all items is one of a chunk
  pub chunk_there : (chunks : List C) (k i rank : ℕ) → IsInside items chunks k i → place_of items chunks k i ≡ rank
      → rank < length (flat_map items chunks) → k < length chunks
  chunk_there chunks k i rank (inl low) at inside = low.0
  chunk_there chunks k i rank (inr past) at inside =
      absurd (omega (arith, past.1, at, inside, ap (λ l. length (flat_map items l)) (take_all k chunks (omega (arith, past.0)))))
