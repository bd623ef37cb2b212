use Rattle.page_text.proofs.Marks.{notes_then}
use Rattle.page_text.proofs.json_status.put_peers.Goals as goal

pub returns : goal.returns
returns c = notes_then c.add.ensures (notes_then c.add_peers.ensures c.add-2.ensures)
