use Rattle.std.proofs.Common.{◌∙◌, ℕ, ap, sym, subst}
use Rattle.std.specs.List.{insert}
use Rattle.std.proofs.lemmas.Result.{on_ok_weaker}
use Rattle.chunk_list.specs.Ranks.{rank}
use Rattle.replica_core.specs.Lines.{row_of, AreLines}
use Rattle.replica_core.specs.Searches.{is_earlier_row}
use Rattle.replica_core.proofs.Absorbing.{either_way}
use Rattle.replica_core.proofs.LineLists.{lines_parted, lines_rank, contains_row, opened, opened_there}
use Rattle.replica_core.proofs.lines.open_line.Goals as goal

pub insert-requires : goal.insert-requires
insert-requires g c = lines_parted c.args.lines.now c.requires (c.args.row.site, c.args.row.start)

pub returns-in-Some-clause-ok : goal.returns-in-Some-clause-ok
returns-in-Some-clause-ok g c = contains_row c.args.lines.now c.in-Some.field-0.now c.in-Some.ensures.0
    (c.args.row.site, c.args.row.start) c.in-Some.ensures.1

pub returns-in-None-clause-ok : goal.returns-in-None-clause-ok
returns-in-None-clause-ok g c =
    let lines = c.args.lines.now in
    let row : ℕ × ℕ = (c.args.row.site, c.args.row.start) in
    let index = rank (λ l. is_earlier_row row (row_of l)) lines in
    on_ok_weaker c.insert.result (λ e. opened_there lines c.insert.new.self c.args.row.site c.args.row.start index (lines_rank lines c.requires row) (e ∙ ap (insert lines index) c.new.ensures)) c.insert.ensures.ok

pub returns-in-None-clause-kept : goal.returns-in-None-clause-kept
returns-in-None-clause-kept g c = λ journal are.
    let lines = c.args.lines.now in
    let row : ℕ × ℕ = (c.args.row.site, c.args.row.start) in
    let index = rank (λ l. is_earlier_row row (row_of l)) lines in
    either_way c.insert.result c.insert.ensures.ok c.insert.ensures.err
    (λ e. subst (AreLines journal) (sym (e ∙ ap (insert lines index) c.new.ensures)) (opened journal lines are c.args.row.site c.args.row.start c.in-None.ensures index (lines_rank lines c.requires row)))
    (λ e. subst (AreLines journal) (sym e) are)
