use Rattle.page_text.specs.Items.{row_tokens}
use Rattle.page_text.proofs.Marks.{notes_more, notes_none}
use Rattle.page_text.proofs.json_items.add_rows.Goals as goal

pub loop-row-init : goal.loop-row-init
loop-row-init c = notes_none c.args.out.now

pub loop-row-preserved : goal.loop-row-preserved
loop-row-preserved c =
    notes_more (row_tokens c.args.state.now) c.args.rows.now c.loop-row.row-index _ c.loop-row-test.true
    c.loop-row.invariant c.add_row.ensures
