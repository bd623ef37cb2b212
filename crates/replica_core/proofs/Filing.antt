-- How an operation comes into the line of its row.
use Rattle.std.proofs.Common.{◌≡◌, ◌≤◌, ◌<◌, ◌&&◌, ◌||◌, ◌==◌, ℕ, Bool, true, false, cond, List, [], ◌∷◌, ◌++◌, length}
use Rattle.std.proofs.Common.{get_or, take, drop, map, filter, refl, sym, ap, subst, ◌∙◌, arith, eq-eqb}
use Rattle.std.specs.declared.cmp.Ordering.TheVariants.{Equal}
use Rattle.std.specs.List.{All, AllByRecursion, insert, list_any}
use Rattle.std.proofs.lemmas.Bool.{false≢true}
use Rattle.std.proofs.lemmas.List.{length-append, take-map, drop-map, map-append, take-append-drop}
use Rattle.std.proofs.Math.ListN.{get_or-append}
use Rattle.std.proofs.Math.Seq.{get_or-append_seam}
use Rattle.std.proofs.lemmas.List.Elements.{recursion_from_All, All-append, All-cons, All-take, All-drop, All-weaker}
use Rattle.std.proofs.lemmas.List.Elements.{All-head, All-tail, filter-append, Contains-get_or}
use Rattle.std.proofs.lemmas.List.Folds.{list_any-append}
use Rattle.review_ops.specs.Operation.{Operation}
use Rattle.replica_core.specs.Clock.{is_of}
use Rattle.replica_core.specs.Front.{holds}
use Rattle.replica_core.specs.InOrder.{IsInOrder}
use Rattle.replica_core.specs.Journal.{same_operation, has}
use Rattle.replica_core.specs.Missing.{row_by_row, row_by_row_exact}
use Rattle.chunk_list.specs.Ranks.{rank}
use Rattle.replica_core.specs.RowLine.{RowLine}
use Rattle.replica_core.specs.Lines.{op_at, ops_at, ops_of, row_of, IsFiled}
use Rattle.replica_core.specs.Searches.{is_below}
use Rattle.replica_core.specs.Sets.{has-from_Contains}
use Rattle.replica_core.proofs.Ranked.{sorted_inserted}
use Rattle.replica_core.proofs.Filed.{has_of}

-- ---- one more at an index
map-insert : {T S : Type 0} (f : T → S) (xs : List T) (i : ℕ) (x : T)
    → map f (insert xs i x) ≡ insert (map f xs) i (f x)
map-insert f xs i x =
    map-append f (take i xs) (x ∷ drop i xs)
    ∙ ap (λ l. l ++ f x ∷ map f (drop i xs)) (sym (take-map f i xs))
    ∙ ap (λ l. take i (map f xs) ++ f x ∷ l) (sym (drop-map f i xs))

swapped : (a b c : Bool) → (a || (b || c)) ≡ (b || (a || c))
swapped true true c = refl
swapped true false c = refl
swapped false true c = refl
swapped false false c = refl

any-insert : {T : Type 0} (p : T → Bool) (xs : List T) (i : ℕ) (x : T)
    → list_any p (insert xs i x) ≡ (p x || list_any p xs)
any-insert p xs i x =
    list_any-append p (take i xs) (x ∷ drop i xs)
    ∙ swapped (list_any p (take i xs)) (p x) (list_any p (drop i xs))
    ∙ ap (λ t. p x || t) (sym (list_any-append p (take i xs) (drop i xs)) ∙ ap (list_any p) (take-append-drop i xs))

-- ---- a journal that has grown
module _ (journal : List Operation) (op : Operation) where
  abbrev grown : List Operation
  grown = journal ++ op ∷ []

  last_at : op_at grown (length journal) ≡ op
  last_at = get_or-append_seam journal op [] _

  same_at : (place : ℕ) → place < length journal → op_at grown place ≡ op_at journal place
  same_at place inside = get_or-append journal (op ∷ []) _ place inside

  pub ops_at-grown : (places : List ℕ) → All (λ place. place < length journal) places
      → ops_at grown places ≡ ops_at journal places
  ops_at-grown [] inside = refl
  ops_at-grown (place ∷ places) inside =
      ap (λ o. o ∷ ops_at grown places) (same_at place (All-head (λ p. p < length journal) place places inside))
      ∙ ap (λ l. op_at journal place ∷ l) (ops_at-grown places (All-tail (λ p. p < length journal) place places inside))

  pub still_inside : (places : List ℕ) → All (λ place. place < length journal) places
      → All (λ place. place < length grown) places
  still_inside places = All-weaker (λ place. place < length journal) (λ place. place < length grown)
      (λ place low. omega (arith, low, length-append journal (op ∷ []))) places

  pub still_held : (site start seq : ℕ) → holds journal site start seq ≡ true → holds grown site start seq ≡ true
  still_held site start seq h =
      list_any-append (λ o. is_of site start o && o.stamp.seq == seq) journal (op ∷ [])
      ∙ ap (λ t. t || list_any (λ o. is_of site start o && o.stamp.seq == seq) (op ∷ [])) h

-- ---- into its line
module _ (journal : List Operation) (line : RowLine) (filed : IsFiled journal line) (op : Operation)
    (row : row_of line ≡ (op.stamp.site, op.stamp.start)) where
  pub of_row : is_of line.site line.start op ≡ true
  of_row = ap (λ t. t && op.stamp.start == line.start) (eq-eqb op.stamp.site line.site (sym (ap (λ r. r.0) row)))
      ∙ eq-eqb op.stamp.start line.start (sym (ap (λ r. r.1) row))

  pub has_row : has (ops_of journal line) op ≡ has journal op
  has_row = has_of journal line filed op ∙ ap (λ t. t && has journal op) of_row

  module _ (index : ℕ) (at : index ≡ rank (is_below op) (ops_of journal line))
      (absent : has (ops_of journal line) op ≡ false) where
    abbrev filed_places : List ℕ
    filed_places = insert line.places index (length journal)

    ops_filed : ops_at (journal ++ op ∷ []) filed_places
        ≡ insert (ops_of journal line) (rank (is_below op) (ops_of journal line)) op
    ops_filed =
        map-insert (op_at (journal ++ op ∷ [])) line.places index (length journal)
        ∙ ap (λ l. insert l index (op_at (journal ++ op ∷ []) (length journal)))
        (ops_at-grown journal op line.places filed.inside)
        ∙ ap (insert (ops_of journal line) index) (last_at journal op)
        ∙ ap (λ i. insert (ops_of journal line) i op) at

    others : AllByRecursion (λ x. ¬ (row_by_row x op ≡ Equal)) (ops_of journal line)
    others = recursion_from_All (λ x. ¬ (row_by_row x op ≡ Equal)) (ops_of journal line) (λ k d inside same.
        false≢true (sym absent ∙ ap (has (ops_of journal line)) (sym (row_by_row_exact.exact (get_or (ops_of journal line) k d) op same)) ∙ has-from_Contains (ops_of journal line) (get_or (ops_of journal line) k d) (Contains-get_or (ops_of journal line) k d inside)))

    kept_last : filter (is_of line.site line.start) (journal ++ op ∷ [])
        ≡ filter (is_of line.site line.start) journal ++ op ∷ []
    kept_last = filter-append (is_of line.site line.start) journal (op ∷ [])
        ∙ ap (λ t. filter (is_of line.site line.start) journal ++ cond t (op ∷ []) []) of_row

    turned : (a b : Bool) → (a || b) ≡ (b || (a || false))
    turned true true = refl
    turned true false = refl
    turned false true = refl
    turned false false = refl

    members : (o : Operation) → has (insert (ops_of journal line) (rank (is_below op) (ops_of journal line)) op) o ≡ has
        (filter (is_of line.site line.start) (journal ++ op ∷ [])) o
    members o =
        any-insert (λ x. same_operation x o) (ops_of journal line) (rank (is_below op) (ops_of journal line)) op
        ∙ ap (λ t. same_operation op o || t) (filed.ordered.members o)
        ∙ turned (same_operation op o) (has (filter (is_of line.site line.start) journal) o)
        ∙ sym (list_any-append (λ x. same_operation x o) (filter (is_of line.site line.start) journal) (op ∷ []))
        ∙ ap (λ l. has l o) (sym kept_last)

    newly_filed : (reach : ℕ) → IsFiled (journal ++ op ∷ [])
        (record { site = line.site; start = line.start; places = filed_places; reach = reach })
    newly_filed reach = record {
      inside = All-append (λ place. place < length (journal ++ op ∷ [])) (take index line.places)
          (length journal ∷ drop index line.places)
          (All-take (λ place. place < length (journal ++ op ∷ [])) index line.places (still_inside journal op line.places filed.inside))
          (All-cons (λ place. place < length (journal ++ op ∷ [])) (length journal) (drop index line.places) (omega (arith, length-append journal (op ∷ [])))
          (All-drop (λ place. place < length (journal ++ op ∷ [])) index line.places (still_inside journal op line.places filed.inside)));
      ordered = subst (IsInOrder row_by_row (filter (is_of line.site line.start) (journal ++ op ∷ []))) (sym ops_filed)
          (record {
            sorted = sorted_inserted row_by_row_exact op (ops_of journal line) filed.ordered.sorted others;
            members = members;
          });
    }

    -- the line that has grown, in a journal that has
    pub filed_new : (after : List Operation) (new : RowLine) → after ≡ journal ++ op ∷ [] → new.site ≡ line.site
        → new.start ≡ line.start → new.places ≡ filed_places → IsFiled after new
    filed_new after new after_is site_is start_is places_is =
        subst (IsFiled after)
        (λ i. record { site = sym site_is i; start = sym start_is i; places = sym places_is i; reach = new.reach })
        (subst (λ j. IsFiled j (record { site = line.site; start = line.start; places = filed_places; reach = new.reach })) (sym after_is) (newly_filed new.reach))

-- the numbers that were held still are
pub held_new : (journal after : List Operation) (line new : RowLine) (op : Operation) → after ≡ journal ++ op ∷ []
    → new.site ≡ line.site → new.start ≡ line.start → new.reach ≡ line.reach
    → ((seq : ℕ) → 1 ≤ seq → seq ≤ line.reach → holds journal line.site line.start seq ≡ true) → (seq : ℕ) → 1 ≤ seq
    → seq ≤ new.reach → holds after new.site new.start seq ≡ true
held_new journal after line new op after_is site_is start_is reach_is gapless seq low high =
    ap (λ j. holds j new.site new.start seq) after_is ∙ ap (λ s. holds (journal ++ op ∷ []) s new.start seq) site_is
    ∙ ap (λ s. holds (journal ++ op ∷ []) line.site s seq) start_is
    ∙ still_held journal op line.site line.start seq (gapless seq low (omega (arith, high, reach_is)))
