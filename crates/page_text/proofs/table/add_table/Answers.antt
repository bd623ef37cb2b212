use Rattle.page_text.proofs.TableRows.{shown_there, table_added}
use Rattle.page_text.proofs.table.add_table.Goals as goal

pub add_rows-requires-clause-there : goal.add_rows-requires-clause-there
add_rows-requires-clause-there c =
    shown_there c.args.verdicts.now c.args.number c.args.rows.now c.rows_of.result.now c.rows_of.ensures c.requires.there

pub returns : goal.returns
returns c =
    table_added c.args.gate.now c.args.state.now c.args.verdicts.now c.args.number c.args.rows.now c.rows_of.result.now c.args.page.now
    c.add_head.new.page c.add_rows.new.page c.add.new.self c.rows_of.ensures c.add_head.ensures c.add_rows.ensures c.add.ensures
