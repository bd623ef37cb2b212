use Rattle.std.proofs.Common.{◌≡◌, ◌∙◌, ℕ, ap, sym, subst}
use Rattle.std.specs.Prelude.{MatchOption}
use Rattle.std.specs.Ordering.{is_eq}
use Rattle.std.specs.List.{Contains}
use Rattle.replica_core.specs.Front.{row_order}
use Rattle.replica_core.specs.Lines.{row_of, rows_of}
use Rattle.replica_core.proofs.LineLists.{lines_parted, found_at, not_where_none, not_where_other, equal_rows}
use Rattle.replica_core.proofs.LineLists.{unequal_rows}
use Rattle.replica_core.proofs.lines.find_line.Goals as goal

pub first_failing-requires : goal.first_failing-requires
first_failing-requires g c = lines_parted c.args.lines.now c.requires (c.args.row.site, c.args.row.start)

pub returns-in_err-line : goal.returns-in_err-line
returns-in_err-line g c =
    let lines = c.args.lines.now in
    let row : ℕ × ℕ = (c.args.row.site, c.args.row.start) in
    subst (λ o. MatchOption o (Contains (rows_of lines) row → ⊥) (λ line. Contains lines line.now × (row_of line.now ≡ row))) (sym c.from_residual.ensures) (not_where_none lines c.requires row c.in_err-line.ensures)

pub returns-then-is_eq : goal.returns-then-is_eq
returns-then-is_eq g c =
    let lines = c.args.lines.now in
    let line = c.in_ok-line.line.now in
    let row : ℕ × ℕ = (c.args.row.site, c.args.row.start) in
    (found_at lines c.requires row line c.in_ok-line.ensures, equal_rows (row_of line) row (sym (c.is_eq.ensures ∙ ap is_eq (c.cmp.ensures ∙ ap (λ r. row_order (r.site, r.start) row) c.row.ensures)) ∙ c.if-is_eq.true))

pub returns-else-is_eq : goal.returns-else-is_eq
returns-else-is_eq g c =
    let lines = c.args.lines.now in
    let line = c.in_ok-line.line.now in
    let row : ℕ × ℕ = (c.args.row.site, c.args.row.start) in
    not_where_other lines c.requires row line c.in_ok-line.ensures (unequal_rows (row_of line) row (sym (c.is_eq.ensures ∙ ap is_eq (c.cmp.ensures ∙ ap (λ r. row_order (r.site, r.start) row) c.row.ensures)) ∙ c.if-is_eq.false))
