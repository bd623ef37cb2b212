use Rattle.std.proofs.Common.{ap}
use Rattle.page_text.specs.Site.{peers_tokens}
use Rattle.page_text.proofs.Marks.{notes_same, notes_then}
use Rattle.page_text.proofs.json_status.put_status.Goals as goal

pub returns : goal.returns
returns c =
    notes_then c.put_site.ensures (notes_then (notes_then c.put_counts.ensures (notes_then c.put_ages.ensures
    (notes_then (notes_same c.put_peers.ensures (ap peers_tokens c.as_slice.ensures.value))
    (notes_then c.put_work.ensures (notes_then c.put_journal.ensures c.add.ensures))))) c.add-2.ensures)
