use Rattle.std.proofs.Common.{ap}
use Rattle.page_text.specs.Items.{list_tokens}
use Rattle.page_text.proofs.Marks.{notes_same, notes_then}
use Rattle.page_text.proofs.json_items.add_items.Goals as goal

pub returns : goal.returns
returns c =
    notes_then (notes_then (rw c.from.ensures at c.add.ensures)
    (notes_same c.add_list.ensures (ap (list_tokens c.args.state.now) c.rows_of.ensures))) c.add-2.ensures
