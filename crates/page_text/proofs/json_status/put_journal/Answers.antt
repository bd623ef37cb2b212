use Rattle.std.proofs.Common.{ap, sym}
use Rattle.page_text.specs.Site.{journal_tokens}
use Rattle.page_text.proofs.Marks.{notes_same}
use Rattle.page_text.proofs.json_status.put_journal.Goals as goal

pub returns-in-Some : goal.returns-in-Some
returns-in-Some c = notes_same c.add.ensures (ap journal_tokens (sym c.in-Some.is))
