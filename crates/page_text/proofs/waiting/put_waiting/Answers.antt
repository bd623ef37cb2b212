use Rattle.page_text.proofs.Marks.{notes_then}
use Rattle.page_text.proofs.waiting.put_waiting.Goals as goal

pub returns : goal.returns
returns c = notes_then (notes_then c.add.ensures c.put_items.ensures) c.add-2.ensures
