-- A line that is taken out of its lines, and comes back changed.
use Rattle.std.proofs.Common.{◌≡◌, ℕ, zero, suc, List, [], ◌∷◌, None, Some, get_or, set, refl, sym, ap, subst, ◌∙◌}
use Rattle.std.specs.Prelude.{slice_get}
use Rattle.std.specs.List.{Contains}
use Rattle.std.specs.List.Sorted.{IsStrictlySortedBy}
use Rattle.std.proofs.Math.Seq.{map-set_same}
use Rattle.std.proofs.lemmas.List.{set-get_or}
use Rattle.std.proofs.lemmas.Option.{slice_get_within, get_or_from_slice_get, slice_get-get_or}
use Rattle.review_ops.specs.Operation.{Operation}
use Rattle.replica_core.specs.Front.{row_order}
use Rattle.replica_core.specs.Journal.{arrived}
use Rattle.replica_core.specs.RowLine.{RowLine}
use Rattle.replica_core.specs.Lines.{row_of, rows_of, IsLine, AreLines}
use Rattle.chunk_list.specs.Ranks.{rank}
use Rattle.replica_core.specs.Searches.{is_earlier_row, line_rank}
use Rattle.replica_core.proofs.Growing.{arrived_lines}
use Rattle.replica_core.proofs.LineLists.{line_there, empty_line}

set_twice : {T : Type 0} (xs : List T) (i : ℕ) (x y : T) → set (set xs i x) i y ≡ set xs i y
set_twice [] i x y = refl
set_twice (z ∷ xs) zero x y = refl
set_twice (z ∷ xs) (suc i) x y = ap (λ l. z ∷ l) (set_twice xs i x y)

module _ (lines : List RowLine) (sorted : IsStrictlySortedBy row_order (rows_of lines)) (row : ℕ × ℕ)
    (there : Contains (rows_of lines) row) where
  abbrev index : ℕ
  index = line_rank lines row

  pub never_none : None ≡ slice_get lines index → ⊥
  never_none none = let e : Some (get_or lines index (empty_line 0 0)) ≡ None = sym (slice_get-get_or lines index (empty_line 0 0) (line_there lines sorted row there).0) ∙ sym none in cc

  module _ (out : RowLine) (found : Some out ≡ slice_get lines index) where
    pub out_there : Contains lines out
    out_there =
        (index, slice_get_within lines index out (sym found), get_or_from_slice_get lines index out out (sym found))

    pub out_row : row_of out ≡ row
    out_row = ap row_of (sym (get_or_from_slice_get lines index out out (sym found)))
        ∙ (line_there lines sorted row there).1 out

  module _ (other : RowLine) (same : row_of other ≡ row) where
    pub rows_kept : rows_of (set lines index other) ≡ rows_of lines
    rows_kept = map-set_same row_of lines index other other (same ∙ sym ((line_there lines sorted row there).1 other))

    pub still_sorted : (without : List RowLine) → without ≡ set lines index other
        → IsStrictlySortedBy row_order (rows_of without)
    still_sorted without is = subst (IsStrictlySortedBy row_order) (sym (ap rows_of is ∙ rows_kept)) sorted

    -- what comes in its place
    pub back_in : (without after : List RowLine) (new : RowLine) → without ≡ set lines index other → row_of new ≡ row
        → after ≡ set without (line_rank without (row_of new)) new → after ≡ set lines index new
    back_in without after new is new_row after_is =
        after_is ∙ ap (λ l. set l (line_rank l (row_of new)) new) is
        ∙ ap (λ r. set (set lines index other) (line_rank (set lines index other) r) new) new_row
        ∙ ap (λ n. set (set lines index other) n new) (ap (rank (is_earlier_row row)) rows_kept)
        ∙ set_twice lines index other new

    pub as_it_was : (without after : List RowLine) (out new : RowLine) → Some out ≡ slice_get lines index
        → without ≡ set lines index other → new ≡ out → after ≡ set without (line_rank without (row_of new)) new
        → after ≡ lines
    as_it_was without after out new found is same_line after_is =
        back_in without after new is (ap row_of same_line ∙ out_row out found) after_is
        ∙ ap (set lines index) (same_line ∙ sym (get_or_from_slice_get lines index out out (sym found)))
        ∙ set-get_or lines index out

  pub changed : (journal after : List Operation) (op : Operation) (new : RowLine) → AreLines journal lines
      → row ≡ (op.stamp.site, op.stamp.start) → row_of new ≡ row → after ≡ arrived journal op → IsLine after new
      → AreLines after (set lines index new)
  changed journal after op new are op_row new_row after_is is =
      let at = line_there lines sorted row there in
      arrived_lines journal lines are index at.0 new (λ d. new_row ∙ sym (at.1 d)) op
      (new_row ∙ op_row) after after_is is
