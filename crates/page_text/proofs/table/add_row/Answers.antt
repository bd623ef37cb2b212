use Rattle.std.proofs.Common.{Contains, subst, sym}
use Rattle.markup_text.specs.Growing.{Grows}
use Rattle.page_text.specs.Rows.{all_rows}
use Rattle.page_text.specs.Table.{AddsRow}
use Rattle.page_text.specs.declared.rows.Row.{Row}
use Rattle.page_text.proofs.table.add_row.Goals as goal

pub returns-in-Enters : goal.returns-in-Enters
returns-in-Enters c =
    subst (λ (row : Row). Grows (AddsRow c.args.gate.now c.args.state.now c.args.verdicts.now row) c.args.page.now c.add_ready.new.page)
    (sym c.in-Enters.is) (c.add_ready.ensures c.args.gate.now c.args.verdicts.now)

pub add_waiting-requires-clause-there : goal.add_waiting-requires-clause-there
add_waiting-requires-clause-there c =
    subst (λ (row : Row). Contains (all_rows c.args.verdicts.now) row) c.in-Waits.is c.requires.there
