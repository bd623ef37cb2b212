use Rattle.page_text.proofs.Marks.{notes_then}
use Rattle.page_text.proofs.json_items.add_list.Goals as goal

pub returns : goal.returns
returns c = notes_then (notes_then c.add.ensures c.add_rows.ensures) c.add-2.ensures
