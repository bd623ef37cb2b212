use Rattle.std.proofs.Common.{ap, sym}
use Rattle.page_text.specs.Items.{row_tokens}
use Rattle.page_text.proofs.Marks.{notes_same}
use Rattle.page_text.proofs.json_items.add_row.Goals as goal

pub returns-in-Enters : goal.returns-in-Enters
returns-in-Enters c = notes_same c.add_ready.ensures (ap (row_tokens c.args.state.now) (sym c.in-Enters.is))

pub returns-in-Waits : goal.returns-in-Waits
returns-in-Waits c = notes_same c.add_left.ensures (ap (row_tokens c.args.state.now) (sym c.in-Waits.is))
