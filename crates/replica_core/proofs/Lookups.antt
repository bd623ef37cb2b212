-- What the line of a row says of the whole journal.
use Rattle.std.proofs.Common.{◌≡◌, ◌&&◌, ◌==◌, Bool, true, false, List, filter, refl, sym, ap, subst, ◌∙◌, eq-eqb}
use Rattle.std.specs.List.{Any, Contains, list_any}
use Rattle.std.proofs.lemmas.List.Folds.{Any-from_list_any}
use Rattle.review_ops.specs.Timestamp.{Timestamp, timestamps_exact}
use Rattle.review_ops.specs.Operation.{Operation}
use Rattle.replica_core.specs.Clock.{is_of}
use Rattle.std.proofs.lemmas.Bool.{false_from_ne_true}
use Rattle.lattice_core.specs.Exact.{same_by_test}
use Rattle.replica_core.specs.Journal.{has, has_stamp}
use Rattle.replica_core.specs.Sets.{any_alike, has-from_Contains}
use Rattle.replica_core.specs.RowLine.{RowLine}
use Rattle.replica_core.specs.Lines.{ops_of, row_of, rows_of, IsFiled, IsLine, AreLines}
use Rattle.replica_core.proofs.Sought.{has_it}
use Rattle.replica_core.proofs.Greatest.{kept_any}

-- a line that is there is that of its row
pub line_in : (journal : List Operation) (lines : List RowLine) → AreLines journal lines → (line : RowLine)
    → Contains lines line → IsLine journal line
line_in journal lines are line there = subst (IsLine journal) there.2 (are.each there.0 line there.1)

module _ (journal : List Operation) (line : RowLine) (filed : IsFiled journal line) (stamp : Timestamp)
    (row : row_of line ≡ (stamp.site, stamp.start)) where
  of_stamp : (op : Operation) → has_it stamp op ≡ true → is_of line.site line.start op ≡ true
  of_stamp op e =
      let same : op.stamp ≡ stamp = same_by_test timestamps_exact op.stamp stamp e in
      ap (λ t. t && op.stamp.start == line.start)
      (eq-eqb op.stamp.site line.site (ap (λ s. s.site) same ∙ sym (ap (λ r. r.0) row)))
      ∙ eq-eqb op.stamp.start line.start (ap (λ s. s.start) same ∙ sym (ap (λ r. r.1) row))

  of_both : (is of : Bool) → (is ≡ true → of ≡ true) → (of && is) ≡ is
  of_both true of h = ap (λ t. t && true) (h refl)
  of_both false true h = refl
  of_both false false h = refl

  pub has_stamp_row : has_stamp (ops_of journal line) stamp ≡ has_stamp journal stamp
  has_stamp_row =
      any_alike (has_it stamp) (ops_of journal line) (filter (is_of line.site line.start) journal) filed.ordered.members
      ∙ kept_any journal line filed (has_it stamp) (is_of line.site line.start) journal
      ∙ ap (λ f. list_any f journal) (λ i op. of_both (has_it stamp op) (is_of line.site line.start op) (of_stamp op) i)

module _ (journal : List Operation) (lines : List RowLine) (are : AreLines journal lines) where
  pub has_none : (op : Operation) → (Contains (rows_of lines) (op.stamp.site, op.stamp.start) → ⊥)
      → has journal op ≡ false
  has_none op none = false_from_ne_true (has journal op) (λ h. none (are.whole op h))

  pub has_stamp_none : (stamp : Timestamp) → (Contains (rows_of lines) (stamp.site, stamp.start) → ⊥)
      → has_stamp journal stamp ≡ false
  has_stamp_none stamp none = false_from_ne_true (has_stamp journal stamp) (λ h.
      let found : Any (λ op. has_it stamp op ≡ true) journal = Any-from_list_any (has_it stamp) journal h in
      let same : found.1.stamp ≡ stamp = same_by_test timestamps_exact found.1.stamp stamp found.4 in
      none (subst (Contains (rows_of lines)) (ap (λ s. (s.site, s.start)) same) (are.whole found.1 (has-from_Contains journal found.1 (found.0, found.2, found.3)))))
