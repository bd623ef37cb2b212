-- The lines of a journal: where one is, and one more of them.
use Rattle.std.proofs.Common.{◌≡◌, ◌≤◌, ◌<◌, ◌+◌, ◌&&◌, ◌==◌, inl, inr, ℕ, Bool, true, false, List, [], ◌∷◌, ◌++◌, None}
use Rattle.std.proofs.Common.{Some, length, get_or, take, drop, filter, refl, sym, ap, subst, ◌∙◌, arith}
use Rattle.std.specs.Prelude.{slice_get}
use Rattle.std.proofs.lemmas.Option.{slice_get_within, get_or_from_slice_get, slice_get-get_or}
use Rattle.std.specs.declared.cmp.Ordering.{Ordering}
use Rattle.std.specs.declared.cmp.Ordering.TheVariants.{Less, Equal, Greater}
use Rattle.std.specs.Ordering.{is_lt, is_eq}
use Rattle.std.specs.Cmp.{tied_itself}
use Rattle.std.specs.List.{Any, AllByRecursion, Contains, insert}
use Rattle.std.specs.List.Sorted.{IsStrictlySortedBy, IsPartitionedBy}
use Rattle.std.proofs.lemmas.Bool.{cases_lt, false≢true}
use Rattle.std.proofs.lemmas.List.{get_or-map, length-map, take-map, drop-map, map-append}
use Rattle.std.proofs.lemmas.List.Edits.{length-insert, get_or-insert_at, get_or-insert_below, get_or-insert_above}
use Rattle.std.proofs.lemmas.List.Elements.{recursion_from_All, All-append, All-cons, All-nil, All-take, All-drop}
use Rattle.std.proofs.lemmas.List.Elements.{Contains-get_or}
use Rattle.std.proofs.lemmas.List.Folds.{Any-from_list_any}
use Rattle.std.proofs.lemmas.Map.Keys.{Less-from_sorted}
use Rattle.review_ops.specs.Operation.{Operation}
use Rattle.replica_core.specs.Clock.{is_of, greatest, seqs}
use Rattle.std.proofs.lemmas.Bool.{false_from_ne_true}
use Rattle.replica_core.specs.Front.{row_order, rows_exact, holds}
use Rattle.replica_core.specs.Journal.{has}
use Rattle.replica_core.specs.Missing.{row_by_row}
use Rattle.chunk_list.specs.Ranks.{rank}
use Rattle.replica_core.specs.RowLine.{RowLine}
use Rattle.replica_core.specs.Lines.{row_of, rows_of, IsLine, AreLines}
use Rattle.replica_core.specs.Sets.{has-filter, has-from_Contains, greatest_alike}
use Rattle.chunk_list.specs.RankLaws.{rank-le, rank-stops, rank-fails, rank-map, parted_map}
use Rattle.replica_core.specs.Searches.{is_earlier_row, line_rank}
use Rattle.replica_core.proofs.Ranked.{parts, less_than, sorted_inserted}
use Rattle.replica_core.proofs.Sought.{both, site_of, start_of}

nil_sorted : IsStrictlySortedBy row_by_row []
unfolding IsStrictlySortedBy
nil_sorted = tt

abbrev pub empty_line : ℕ → ℕ → RowLine
empty_line site start = record { site = site; start = start; places = []; reach = 0 }

-- the row at an index
pub row_at : (lines : List RowLine) (i : ℕ) → i < length lines → (d : ℕ × ℕ) (line : RowLine)
    → get_or (rows_of lines) i d ≡ row_of (get_or lines i line)
row_at lines i inside d line = get_or-map row_of lines i line d inside

equal_of : (o : Ordering) → is_eq o ≡ true → o ≡ Equal
equal_of Less e = cc
equal_of Equal e = refl
equal_of Greater e = cc

-- ---- where the line of a row is
any : (rows : List (ℕ × ℕ)) → AllByRecursion (λ _. Unit {0}) rows
any [] = tt
any (row ∷ rows) = (tt, any rows)

module _ (rows : List (ℕ × ℕ)) (sorted : IsStrictlySortedBy row_order rows) (row : ℕ × ℕ) where
  pub rows_parted : IsPartitionedBy (is_earlier_row row) rows
  rows_parted = parts (is_earlier_row row) row_order (λ _. Unit {0}) (λ x y of_x of_y less below. ap is_lt (rows_exact.total.trans x y row less (less_than (row_order y row) below))) rows sorted (any rows)

  -- a row that is there is where the search ends
  at_rank : (k : ℕ) → k < length rows → get_or rows k row ≡ row
      → (rank (is_earlier_row row) rows < length rows) × (get_or rows (rank (is_earlier_row row) rows) row ≡ row)
  at_rank k inside here =
      let r = rank (is_earlier_row row) rows in
      let low : r ≤ k = rank-stops (is_earlier_row row) rows k row inside (ap (λ x. is_lt (row_order x row)) here ∙ ap is_lt (tied_itself rows_exact.total row)) in
      elim (cases_lt r k) [
        | inl before ↦
            let less = Less-from_sorted row_order rows r k row sorted before inside in
            let fails = rank-fails (is_earlier_row row) rows row (omega (arith, before, inside)) in
            absurd (false≢true (sym fails ∙ ap is_lt (ap (row_order (get_or rows r row)) (sym here) ∙ less)))
        | inr after ↦ (omega (arith, low, inside), ap (λ n. get_or rows n row) (omega (arith, low, after)) ∙ here)
      ]

module _ (lines : List RowLine) (sorted : IsStrictlySortedBy row_order (rows_of lines)) (row : ℕ × ℕ) where
  pub lines_parted : IsPartitionedBy (λ line. is_earlier_row row (row_of line)) lines
  lines_parted = parted_map (is_earlier_row row) row_of lines (rows_parted (rows_of lines) sorted row)

  pub lines_rank : rank (λ line. is_earlier_row row (row_of line)) lines ≡ line_rank lines row
  lines_rank = rank-map (is_earlier_row row) row_of lines

  pub line_there : Contains (rows_of lines) row
      → (line_rank lines row < length lines) × ((d : RowLine) → row_of (get_or lines (line_rank lines row) d) ≡ row)
  line_there there =
      let at = at_rank (rows_of lines) sorted row there.0 there.1 there.2 in
      let inside : line_rank lines row < length lines = omega (arith, at.0, length-map lines row_of) in
      (inside, λ d. sym (row_at lines (line_rank lines row) inside row d) ∙ at.1)

  pub found_at : (line : RowLine) → Some line ≡ slice_get lines (rank (λ l. is_earlier_row row (row_of l)) lines)
      → Contains lines line
  found_at line there =
      let r = rank (λ l. is_earlier_row row (row_of l)) lines in
      (r, slice_get_within lines r line (sym there), get_or_from_slice_get lines r line line (sym there))

  pub not_where_none : None ≡ slice_get lines (rank (λ l. is_earlier_row row (row_of l)) lines)
      → Contains (rows_of lines) row → ⊥
  not_where_none none there =
      let at = line_there there in
      let e : Some (get_or lines (line_rank lines row) (empty_line 0 0)) ≡ None =
      sym (slice_get-get_or lines (line_rank lines row) (empty_line 0 0) at.0) ∙ ap (slice_get lines) (sym lines_rank)
      ∙ sym none in
      cc

  pub not_where_other : (line : RowLine) → Some line ≡ slice_get lines (rank (λ l. is_earlier_row row (row_of l)) lines)
      → ¬ (row_of line ≡ row) → Contains (rows_of lines) row → ⊥
  not_where_other line found other there =
      let at = line_there there in
      other (ap row_of (sym (get_or_from_slice_get lines (line_rank lines row) line line (ap (slice_get lines) (sym lines_rank) ∙ sym found))) ∙ at.1 line)

pub equal_rows : (a b : ℕ × ℕ) → is_eq (row_order a b) ≡ true → a ≡ b
equal_rows a b e = rows_exact.exact a b (equal_of (row_order a b) e)

pub unequal_rows : (a b : ℕ × ℕ) → is_eq (row_order a b) ≡ false → ¬ (a ≡ b)
unequal_rows a b e same = false≢true (sym e ∙ ap is_eq (ap (row_order a) (sym same) ∙ tied_itself rows_exact.total a))

-- a line that is there has its row there
pub contains_row : (lines : List RowLine) (line : RowLine) → Contains lines line → (row : ℕ × ℕ) → row_of line ≡ row
    → Contains (rows_of lines) row
contains_row lines line there row is =
    (there.0, omega (arith, there.1, length-map lines row_of), row_at lines there.0 there.1 row line ∙ ap row_of there.2 ∙ is)

-- ---- one more line
pub rows-insert : (lines : List RowLine) (index : ℕ) (line : RowLine)
    → rows_of (insert lines index line) ≡ insert (rows_of lines) index (row_of line)
rows-insert lines index line =
    map-append row_of (take index lines) (line ∷ drop index lines)
    ∙ ap (λ l. l ++ row_of line ∷ rows_of (drop index lines)) (sym (take-map row_of index lines))
    ∙ ap (λ l. take index (rows_of lines) ++ row_of line ∷ l) (sym (drop-map row_of index lines))

contains_inserted : (rows : List (ℕ × ℕ)) (index : ℕ) (new row : ℕ × ℕ) → index ≤ length rows → Contains rows row
    → Contains (insert rows index new) row
contains_inserted rows index new row low there = elim (cases_lt there.0 index) [
  | inl before ↦ (there.0, omega (arith, there.1, length-insert rows index new low), get_or-insert_below rows index new row there.0 before low ∙ there.2)
  | inr after ↦ (there.0 + 1, omega (arith, there.1, length-insert rows index new low), get_or-insert_above rows index new row there.0 after low ∙ there.2)
]

module _ (journal : List Operation) (lines : List RowLine) (are : AreLines journal lines) (site start : ℕ)
    (none : Contains (rows_of lines) (site, start) → ⊥) where
  not_both : (op : Operation) → is_of site start op ≡ true → has journal op ≡ true → ⊥
  not_both op of_it h = none (subst (Contains (rows_of lines)) (λ i. (site_of site start op of_it i, start_of site start op of_it i)) (are.whole op h))

  none_of : (op : Operation) → (a b : Bool) → is_of site start op ≡ a → has journal op ≡ b → (a && b) ≡ false
  none_of op true true e h = absurd (not_both op e h)
  none_of op true false e h = refl
  none_of op false b e h = refl

  pub none_held : (seq : ℕ) → holds journal site start seq ≡ false
  none_held seq = false_from_ne_true (holds journal site start seq) (λ h.
      let test = λ (op : Operation). is_of site start op && op.stamp.seq == seq in
      let found : Any (λ op. (is_of site start op && op.stamp.seq == seq) ≡ true) journal = Any-from_list_any (λ op. is_of site start op && op.stamp.seq == seq) journal h in
      not_both found.1 (both (is_of site start found.1) (found.1.stamp.seq == seq) found.4).0
      (has-from_Contains journal found.1 (found.0, found.2, found.3)))

  empty_is_line : IsLine journal (empty_line site start)
  empty_is_line = record {
    filed = record {
      inside = All-nil (λ place. place < length journal);
      ordered = record { sorted = nil_sorted; members = λ op. sym (has-filter (is_of site start) journal op ∙ none_of op (is_of site start op) (has journal op) refl refl) };
    };
    reach = record { gapless = λ seq low high. absurd (omega (arith, low, high)); ends = none_held 1 };
  }

  pub no_seqs : 0 ≡ greatest (seqs site start journal)
  no_seqs = greatest_alike (λ op. op.stamp.seq) [] (filter (is_of site start) journal) (λ op. sym (has-filter (is_of site start) journal op ∙ none_of op (is_of site start op) (has journal op) refl refl))

  pub opened : (index : ℕ) → index ≡ rank (is_earlier_row (site, start)) (rows_of lines)
      → AreLines journal (insert lines index (empty_line site start))
  opened index at = record {
    sorted = subst (IsStrictlySortedBy row_order)
        (sym (rows-insert lines index (empty_line site start) ∙ ap (λ i. insert (rows_of lines) i (site, start)) at))
        (sorted_inserted rows_exact (site, start) (rows_of lines) are.sorted (recursion_from_All (λ row. ¬ (row_order row (site, start) ≡ Equal)) (rows_of lines)
        (λ k d inside same. none (subst (Contains (rows_of lines)) (rows_exact.exact (get_or (rows_of lines) k d) (site, start) same) (Contains-get_or (rows_of lines) k d inside)))));
    each = All-append (IsLine journal) (take index lines) (empty_line site start ∷ drop index lines)
        (All-take (IsLine journal) index lines are.each)
        (All-cons (IsLine journal) (empty_line site start) (drop index lines) empty_is_line (All-drop (IsLine journal) index lines are.each));
    whole = λ op h. subst (λ rows. Contains rows (op.stamp.site, op.stamp.start))
        (sym (rows-insert lines index (empty_line site start)))
        (contains_inserted (rows_of lines) index (site, start) (op.stamp.site, op.stamp.start) (subst (λ i. i ≤ length (rows_of lines)) (sym at) (rank-le (is_earlier_row (site, start)) (rows_of lines))) (are.whole op h));
  }

pub opened_there : (lines new : List RowLine) (site start index : ℕ)
    → index ≡ rank (is_earlier_row (site, start)) (rows_of lines) → new ≡ insert lines index (empty_line site start)
    → Contains (rows_of new) (site, start)
opened_there lines new site start index at is =
    let low : index ≤ length (rows_of lines) = subst (λ i. i ≤ length (rows_of lines)) (sym at) (rank-le (is_earlier_row (site, start)) (rows_of lines)) in (
      index,
      omega (arith, low, length-map lines row_of, ap length is, length-map new row_of, length-insert lines index (empty_line site start) (omega (arith, low, length-map lines row_of))),
      ap (λ l. get_or (rows_of l) index (site, start)) is
          ∙ ap (λ l. get_or l index (site, start)) (rows-insert lines index (empty_line site start))
          ∙ get_or-insert_at (rows_of lines) index (site, start) (site, start) low,
    )

-- a journal without operations has no line
pub no_lines : AreLines [] []
unfolding IsStrictlySortedBy
no_lines = record { sorted = tt; each = All-nil (IsLine []); whole = λ op h. cc }
