-- The lines of a journal to which an operation comes: its own line has changed, the others are as they were.
use Rattle.std.proofs.Common.{◌≡◌, ◌<◌, ◌+◌, ◌&&◌, ◌||◌, ◌==◌, inl, inr, ℕ, Bool, true, false, cond, List, [], ◌∷◌}
use Rattle.std.proofs.Common.{◌++◌, length, get_or, set, filter, refl, sym, ap, subst, ◌∙◌, arith, get_or-set_other}
use Rattle.std.proofs.Common.{get_or-set_same}
use Rattle.std.specs.declared.cmp.Ordering.TheVariants.{Less, Equal}
use Rattle.std.specs.Cmp.{tied_itself}
use Rattle.std.specs.List.{Contains}
use Rattle.std.specs.List.Sorted.{IsStrictlySortedBy}
use Rattle.std.proofs.lemmas.Bool.{cases_lt, eqb-true, eqb-false}
use Rattle.std.proofs.lemmas.List.{length-map, append-nil}
use Rattle.std.proofs.Math.ListN.{length-set}
use Rattle.std.proofs.Math.Seq.{map-set_same}
use Rattle.std.proofs.lemmas.List.Elements.{All-set, filter-append, Contains-get_or}
use Rattle.std.proofs.lemmas.List.Folds.{list_any-append}
use Rattle.std.proofs.lemmas.Map.Keys.{Less-from_sorted}
use Rattle.review_ops.specs.Operation.{Operation}
use Rattle.replica_core.specs.Clock.{is_of}
use Rattle.std.proofs.lemmas.Bool.{false_from_ne_true}
use Rattle.replica_core.specs.Front.{row_order, rows_exact, holds}
use Rattle.replica_core.specs.InOrder.{IsInOrder, same_is_equal}
use Rattle.replica_core.specs.Journal.{same_operation, has, arrived}
use Rattle.replica_core.specs.Missing.{row_by_row}
use Rattle.replica_core.specs.RowLine.{RowLine}
use Rattle.replica_core.specs.Lines.{ops_of, row_of, rows_of, IsLine, AreLines}
use Rattle.replica_core.proofs.Sought.{site_of, start_of}
use Rattle.replica_core.proofs.LineLists.{row_at}
use Rattle.replica_core.proofs.Filing.{ops_at-grown, still_inside}

or_false : (a : Bool) → (a || false) ≡ a
or_false true = refl
or_false false = refl

-- ---- another line
module _ (journal : List Operation) (op : Operation) (line : RowLine)
    (other : is_of line.site line.start op ≡ false) where
  kept : filter (is_of line.site line.start) (journal ++ op ∷ []) ≡ filter (is_of line.site line.start) journal
  kept =
      filter-append (is_of line.site line.start) journal (op ∷ [])
      ∙ ap (λ t. filter (is_of line.site line.start) journal ++ cond t (op ∷ []) []) other
      ∙ append-nil (filter (is_of line.site line.start) journal)

  held : (seq : ℕ) → holds (journal ++ op ∷ []) line.site line.start seq ≡ holds journal line.site line.start seq
  held seq =
      list_any-append (λ o. is_of line.site line.start o && o.stamp.seq == seq) journal (op ∷ [])
      ∙ ap (λ t. holds journal line.site line.start seq || ((t && op.stamp.seq == seq) || false)) other
      ∙ or_false (holds journal line.site line.start seq)

  pub elsewhere : IsLine journal line → IsLine (journal ++ op ∷ []) line
  elsewhere is = record {
    filed = record {
      inside = still_inside journal op line.places is.filed.inside;
      ordered = subst (IsInOrder row_by_row (filter (is_of line.site line.start) (journal ++ op ∷ [])))
          (sym (ops_at-grown journal op line.places is.filed.inside))
          (subst (λ ops. IsInOrder row_by_row ops (ops_of journal line)) (sym kept) is.filed.ordered);
    };
    reach = record {
      gapless = λ seq low high. held seq ∙ is.reach.gapless seq low high;
      ends = held (line.reach + 1) ∙ is.reach.ends;
    };
  }

-- ---- all of them
module _ (journal : List Operation) (lines : List RowLine) (are : AreLines journal lines) (index : ℕ)
    (inside : index < length lines) (new : RowLine)
    (same_row : (d : RowLine) → row_of new ≡ row_of (get_or lines index d)) (op : Operation)
    (row : row_of new ≡ (op.stamp.site, op.stamp.start)) where
  rows_same : rows_of (set lines index new) ≡ rows_of lines
  rows_same = map-set_same row_of lines index new new (same_row new)

  pub known_lines : IsLine journal new → AreLines journal (set lines index new)
  known_lines is = record {
    sorted = subst (IsStrictlySortedBy row_order) (sym rows_same) are.sorted;
    each = All-set (IsLine journal) lines index new is are.each;
    whole = λ o h. subst (λ rows. Contains rows (o.stamp.site, o.stamp.start)) (sym rows_same) (are.whole o h);
  }

  -- lines at two indexes are of two rows
  apart : (i j : ℕ) (d : RowLine) → i < j → j < length lines → ¬ (row_of (get_or lines i d) ≡ row_of (get_or lines j d))
  apart i j d before low same =
      let less = Less-from_sorted row_order (rows_of lines) i j (row_of d) are.sorted before (omega (arith, low, length-map lines row_of)) in
      let equal : get_or (rows_of lines) i (row_of d) ≡ get_or (rows_of lines) j (row_of d) = row_at lines i (omega (arith, before, low)) (row_of d) d ∙ same ∙ sym (row_at lines j low (row_of d) d) in
      let e : Less ≡ Equal = sym less ∙ ap (row_order (get_or (rows_of lines) i (row_of d))) (sym equal) ∙ tied_itself rows_exact.total (get_or (rows_of lines) i (row_of d)) in cc

  other_row : (k : ℕ) (d : RowLine) → k < length lines → ¬ (k ≡ index) → ¬ (row_of (get_or lines k d) ≡ row_of new)
  other_row k d low differs same = elim (cases_lt k index) [
    | inl before ↦ apart k index d before inside (same ∙ same_row d)
    | inr after ↦ apart index k d (omega (arith, after, differs)) low (sym (same ∙ same_row d))
  ]

  not_of : (k : ℕ) (d : RowLine) → k < length lines → ¬ (k ≡ index)
      → is_of (get_or lines k d).site (get_or lines k d).start op ≡ false
  not_of k d low differs =
      let line = get_or lines k d in
      false_from_ne_true (is_of line.site line.start op) (λ of_it. other_row k d low differs ((λ i. (sym (site_of line.site line.start op of_it) i, sym (start_of line.site line.start op of_it) i)) ∙ sym row))

  of_grown : IsLine (journal ++ op ∷ []) new → (k : ℕ) (d : RowLine) → k < length lines → (same : Bool)
      → (k == index) ≡ same → IsLine (journal ++ op ∷ []) (get_or (set lines index new) k d)
  of_grown is k d low true e =
      subst (IsLine (journal ++ op ∷ [])) (sym (ap (λ n. get_or (set lines index new) n d) (eqb-true k index e) ∙ get_or-set_same lines index new d inside)) is
  of_grown is k d low false e =
      let differs : ¬ (k ≡ index) = eqb-false k index e in
      subst (IsLine (journal ++ op ∷ [])) (sym (get_or-set_other lines index k new d differs))
      (elsewhere journal op (get_or lines k d) (not_of k d low differs) (are.each k d low))

  covered : (o : Operation) (old last : Bool) → has journal o ≡ old → same_operation op o ≡ last
      → (old || (last || false)) ≡ true → Contains (rows_of lines) (o.stamp.site, o.stamp.start)
  covered o true last is_old is_last h = are.whole o is_old
  covered o false true is_old is_last h =
      subst (Contains (rows_of lines)) (row_at lines index inside (row_of new) new ∙ sym (same_row new) ∙ row ∙ ap (λ x. (x.stamp.site, x.stamp.start)) (same_is_equal op o is_last))
      (Contains-get_or (rows_of lines) index (row_of new) (omega (arith, inside, length-map lines row_of)))
  covered o false false is_old is_last h = cc

  pub grown_lines : IsLine (journal ++ op ∷ []) new → AreLines (journal ++ op ∷ []) (set lines index new)
  grown_lines is = record {
    sorted = subst (IsStrictlySortedBy row_order) (sym rows_same) are.sorted;
    each = λ k d low. of_grown is k d (omega (arith, low, length-set lines index new)) (k == index) refl;
    whole = λ o h. subst (λ rows. Contains rows (o.stamp.site, o.stamp.start)) (sym rows_same) (covered o (has journal o) (same_operation op o) refl refl (sym (list_any-append (λ x. same_operation x o) journal (op ∷ [])) ∙ h));
  }

  after_arrived : (known : Bool) → has journal op ≡ known → (after : List Operation) → after ≡ arrived journal op
      → IsLine after new → AreLines after (set lines index new)
  after_arrived true e after is line =
      let same : after ≡ journal = is ∙ ap (λ t. cond t journal (journal ++ op ∷ [])) e in
      subst (λ j. AreLines j (set lines index new)) (sym same) (known_lines (subst (λ j. IsLine j new) same line))
  after_arrived false e after is line =
      let same : after ≡ journal ++ op ∷ [] = is ∙ ap (λ t. cond t journal (journal ++ op ∷ [])) e in
      subst (λ j. AreLines j (set lines index new)) (sym same) (grown_lines (subst (λ j. IsLine j new) same line))

  pub arrived_lines : (after : List Operation) → after ≡ arrived journal op → IsLine after new
      → AreLines after (set lines index new)
  arrived_lines = after_arrived (has journal op) refl
