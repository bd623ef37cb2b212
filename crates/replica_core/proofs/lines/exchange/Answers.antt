use Rattle.std.proofs.Common.{◌∙◌, set, ap}
use Rattle.std.specs.Prelude.{slice_get}
use Rattle.replica_core.specs.Searches.{line_rank}
use Rattle.replica_core.proofs.LineLists.{lines_parted, lines_rank}
use Rattle.replica_core.proofs.lines.exchange.Goals as goal

pub replace-requires : goal.replace-requires
replace-requires g c = lines_parted c.args.lines.now c.requires (c.row-row.result.site, c.row-row.result.start)

pub returns-clause-found : goal.returns-clause-found
returns-clause-found g c =
    let lines = c.args.lines.now in
    c.replace.ensures.item ∙ ap (slice_get lines) (lines_rank lines c.requires (c.row-row.result.site, c.row-row.result.start) ∙ ap (λ r. line_rank lines (r.site, r.start)) c.row-row.ensures)

pub returns-clause-lines : goal.returns-clause-lines
returns-clause-lines g c =
    let lines = c.args.lines.now in
    c.replace.ensures.rest ∙ ap (λ n. set lines n c.args.line) (lines_rank lines c.requires (c.row-row.result.site, c.row-row.result.start) ∙ ap (λ r. line_rank lines (r.site, r.start)) c.row-row.ensures)
