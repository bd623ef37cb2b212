use Rattle.page_text.proofs.Marks.{notes_then}
use Rattle.page_text.proofs.json_items.add_ready.Goals as goal

pub returns : goal.returns
returns c = notes_then c.add_about.ensures c.add.ensures
