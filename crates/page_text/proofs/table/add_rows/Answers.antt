use Rattle.std.proofs.Common.{Contains}
use Rattle.std.proofs.lemmas.List.Elements.{All-get_or}
use Rattle.page_text.specs.Rows.{all_rows}
use Rattle.page_text.proofs.TableRows.{no_rows, rows_more}
use Rattle.page_text.proofs.table.add_rows.Goals as goal

pub loop-row-init : goal.loop-row-init
loop-row-init c = no_rows c.args.gate.now c.args.state.now c.args.verdicts.now c.args.page.now

pub add_row-requires-clause-there : goal.add_row-requires-clause-there
add_row-requires-clause-there c =
    All-get_or (Contains (all_rows c.args.verdicts.now)) c.args.rows.now c.loop-row.row-index _ c.loop-row-test.true
    c.requires.there

pub loop-row-preserved : goal.loop-row-preserved
loop-row-preserved c =
    rows_more c.args.gate.now c.args.state.now c.args.verdicts.now c.args.rows.now c.loop-row.row-index _ c.args.page.now c.loop-row.page c.add_row.new.page
    c.loop-row-test.true c.loop-row.invariant c.add_row.ensures
